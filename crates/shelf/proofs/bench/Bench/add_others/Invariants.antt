-- The columns below `column` are read and added.
use Rattle.std.proofs.Common.{◌≡◌}
use Rattle.law.specs.Holding.{held}
use Rattle.law.specs.Hand.{others}
use Rattle.shelf.specs.Reading.{after_reads}
use Rattle.shelf.specs.Regaining.{once_below, row_of, below}
use Rattle.shelf.specs.Benches.{AddsRow}
use Rattle.shelf.proofs.bench.Bench.add_others.Given as goal

abbrev pub invariant-loop-column : goal.invariant-loop-column
invariant-loop-column g l =
    let M = held (g.T.Tray.meaning l.initial.tray) in
    (g.T.Tray.meaning l.tray ≡ after_reads (g.T.Tray.meaning l.initial.tray) (once_below l.lost l.column))
    × AddsRow l.row.0 l.lost (λ b. others l.column l.lost (M b l.row.0)) (λ b. row_of l.row.0 (below l.lost l.column (M b))) l.initial.self l.self
