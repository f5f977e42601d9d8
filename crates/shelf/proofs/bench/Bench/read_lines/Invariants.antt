-- The lines of the white rows below `row` are read.
use Rattle.std.proofs.Common.{◌≡◌, ◌+◌, ◌-◌}
use Rattle.code.specs.Numbers.{count}
use Rattle.code.specs.Code.{dark}
use Rattle.law.specs.Holding.{held}
use Rattle.shelf.specs.Reading.{after_reads, times}
use Rattle.shelf.specs.Benches.{ReadsLines}
use Rattle.shelf.proofs.bench.Bench.read_lines.Given as goal

abbrev pub invariant-loop-row : goal.invariant-loop-row
invariant-loop-row g l =
    (g.T.Tray.meaning l.tray ≡ after_reads (g.T.Tray.meaning l.initial.tray) (times (l.initial.self.k.number + 1) (l.row - count l.row (λ i. dark i l.lost))))
    × ReadsLines l.lost (held (g.T.Tray.meaning l.initial.tray)) l.row l.initial.self l.self
