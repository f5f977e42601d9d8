-- The columns below `column` are read and added.
use Rattle.std.proofs.Common.{◌≡◌}
use Rattle.code.specs.Code.{rows}
use Rattle.law.specs.Holding.{held}
use Rattle.shelf.specs.Missing.{is_out}
use Rattle.shelf.specs.Reading.{after_reads, each_below, served}
use Rattle.shelf.specs.Benches.{AddsData}
use Rattle.shelf.proofs.bench.Bench.gather_data.Given as goal

abbrev pub invariant-loop-column : goal.invariant-loop-column
invariant-loop-column g l =
    (g.T.Tray.meaning l.tray ≡ after_reads (g.T.Tray.meaning l.initial.tray) (each_below (is_out l.out) (rows l.initial.self.k.number) l.column))
    × AddsData (λ b. served (is_out l.out) l.column (held (g.T.Tray.meaning l.initial.tray) b)) l.initial.self l.self
