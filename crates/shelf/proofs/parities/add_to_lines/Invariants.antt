-- The lines that meet the columns below `through` are served.
use Rattle.std.proofs.Common.{length}
use Rattle.code.specs.Neighbours.{published}
use Rattle.shelf.specs.Parities.{AddedAt, lines_below}
use Rattle.shelf.proofs.parities.add_to_lines.Given as goal

abbrev pub invariant-loop-through : goal.invariant-loop-through
invariant-loop-through g l =
    AddedAt (length l.block) (g.T.Tray.meaning l.initial.tray) l.block (lines_below l.k.number (published l.k.number) l.row.0 l.column l.through)
    (g.T.Tray.meaning l.tray)
