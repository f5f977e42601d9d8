-- The columns below `column` are read.
use Rattle.std.proofs.Common.{length}
use Rattle.law.specs.Holding.{held, Calm}
use Rattle.law.specs.Hand.{others}
use Rattle.shelf.specs.Regaining.{BytesAdded}
use Rattle.shelf.proofs.regain.regain_by_row.Given as goal

abbrev pub invariant-loop-column : goal.invariant-loop-column
invariant-loop-column g l =
    Calm (g.T.Tray.meaning l.initial.tray) (g.T.Tray.meaning l.tray)
    × BytesAdded (length l.initial.block) l.initial.block (λ b. others l.column l.lost (held (g.T.Tray.meaning l.initial.tray) b l.row.0)) l.block
