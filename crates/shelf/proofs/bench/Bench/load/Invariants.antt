-- The rows below `row` are read into their slots.
use Rattle.std.proofs.Common.{◌≡◌}
use Rattle.law.specs.Holding.{held}
use Rattle.shelf.specs.Reading.{after_reads, times}
use Rattle.shelf.specs.Benches.{Fills}
use Rattle.shelf.proofs.bench.Bench.load.Given as goal

abbrev pub invariant-loop-row : goal.invariant-loop-row
invariant-loop-row g l =
    (g.T.Tray.meaning l.tray ≡ after_reads (g.T.Tray.meaning l.initial.tray) (times l.column l.row))
    × Fills l.first l.row (λ r b. held (g.T.Tray.meaning l.initial.tray) b r l.column) l.initial.self l.self
