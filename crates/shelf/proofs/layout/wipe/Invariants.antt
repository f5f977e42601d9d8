use Rattle.std.proofs.Common.{◌≡◌}
use Rattle.shelf.specs.Wiped.{wiped}
use Rattle.shelf.proofs.layout.wipe.Given as goal

abbrev pub invariant-loop-column : goal.invariant-loop-column
invariant-loop-column g l = g.T.Tray.meaning l.tray ≡ wiped (g.T.Tray.meaning l.initial.tray) l.column l.rows l.block
