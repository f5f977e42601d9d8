use Rattle.std.proofs.Common.{length}
use Rattle.shelf.specs.Rosters.{roster_of}
use Rattle.lab.proofs.Filling.{Filling}
use Rattle.lab.proofs.fill.fill.Given as goal

abbrev pub invariant-loop-row : goal.invariant-loop-row
invariant-loop-row g l =
    Filling (roster_of l.roster) l.column l.block (length l.fn.work) (g.T.Tray.meaning l.fn.tray) l.row (g.T.Tray.meaning l.tray)
