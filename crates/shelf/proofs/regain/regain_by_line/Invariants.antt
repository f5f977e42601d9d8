-- The columns below `through` are done.
use Rattle.std.proofs.Common.{length}
use Rattle.code.specs.Code.{meets}
use Rattle.code.specs.Neighbours.{published}
use Rattle.law.specs.Holding.{held, Calm}
use Rattle.law.specs.Hand.{others}
use Rattle.shelf.specs.Regaining.{BytesAdded, taken}
use Rattle.shelf.proofs.regain.regain_by_line.Given as goal

abbrev pub invariant-loop-through : goal.invariant-loop-through
invariant-loop-through g l =
    Calm (g.T.Tray.meaning l.initial.tray) (g.T.Tray.meaning l.tray)
    × BytesAdded (length l.initial.block) l.initial.block
    (λ b. others l.through l.lost (λ c. taken l.k.number (published l.k.number) (held (g.T.Tray.meaning l.initial.tray) b) l.lost (meets l.line.0 c) c)) l.block
