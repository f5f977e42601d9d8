-- The dark rows below `row` are found.
use Rattle.std.proofs.Common.{◌≡◌}
use Rattle.code.specs.Numbers.{count}
use Rattle.code.specs.Code.{dark}
use Rattle.law.specs.Holding.{held}
use Rattle.shelf.specs.Reading.{after_reads}
use Rattle.shelf.specs.Regaining.{of_rows}
use Rattle.shelf.specs.Benches.{GetsHalfway}
use Rattle.shelf.proofs.bench.Bench.regain_rows.Given as goal

abbrev pub invariant-loop-row : goal.invariant-loop-row
invariant-loop-row g l =
    (g.T.Tray.meaning l.tray ≡ after_reads (g.T.Tray.meaning l.initial.tray) (of_rows l.initial.self.k.number l.lost (count l.row (λ i. dark i l.lost))))
    × GetsHalfway l.lost (held (g.T.Tray.meaning l.initial.tray)) l.row l.initial.self l.self
