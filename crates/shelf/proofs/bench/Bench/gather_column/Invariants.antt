-- The rows below `row` are read and added.
use Rattle.std.proofs.Common.{◌≡◌}
use Rattle.law.specs.Holding.{held}
use Rattle.shelf.specs.Reading.{after_reads, times, part}
use Rattle.shelf.specs.Benches.{AddsData}
use Rattle.shelf.proofs.bench.Bench.gather_column.Given as goal

abbrev pub invariant-loop-row : goal.invariant-loop-row
invariant-loop-row g l =
    (g.T.Tray.meaning l.tray ≡ after_reads (g.T.Tray.meaning l.initial.tray) (times l.column l.row))
    × AddsData (λ b. part l.column l.row (held (g.T.Tray.meaning l.initial.tray) b)) l.initial.self l.self
