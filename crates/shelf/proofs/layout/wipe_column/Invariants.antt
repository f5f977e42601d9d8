use Rattle.std.proofs.Common.{◌≡◌}
use Rattle.shelf.specs.Wiped.{wiped_column}
use Rattle.shelf.proofs.layout.wipe_column.Given as goal

abbrev pub invariant-loop-row : goal.invariant-loop-row
invariant-loop-row g l = g.T.Tray.meaning l.tray ≡ wiped_column (g.T.Tray.meaning l.initial.tray) l.column l.row l.block
