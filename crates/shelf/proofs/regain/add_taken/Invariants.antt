-- The columns below `column` are read, where they are wanted.
use Rattle.std.proofs.Common.{length}
use Rattle.code.specs.Numbers.{only, xorsum}
use Rattle.code.specs.Neighbours.{published}
use Rattle.law.specs.Holding.{held, Calm}
use Rattle.shelf.specs.Regaining.{BytesAdded, wants}
use Rattle.shelf.proofs.regain.add_taken.Given as goal

abbrev pub invariant-loop-column : goal.invariant-loop-column
invariant-loop-column g l =
    Calm (g.T.Tray.meaning l.initial.tray) (g.T.Tray.meaning l.tray)
    × BytesAdded (length l.initial.block) l.initial.block
    (λ b. xorsum l.column (λ c. only (wants (published l.k.number) l.row.0 l.through l.lost c) (held (g.T.Tray.meaning l.initial.tray) b l.row.0 c))) l.block
