-- The places that the line takes in the columns below `through` are listed, and then those in the columns below `column` that
-- it takes where it meets `through`.
use Rattle.std.proofs.Common.{◌≡◌, ◌++◌, vec_items}
use Rattle.code.specs.Numbers.{those}
use Rattle.code.specs.Neighbours.{published}
use Rattle.code.specs.Lines.{takes, in_row, places_below}
use Rattle.code.proofs.lines.places_of.Given as goal

abbrev pub invariant-loop-through : goal.invariant-loop-through
invariant-loop-through l = vec_items l.places ≡ places_below l.k (published l.k) l.line.0 l.through

abbrev pub invariant-loop-column : goal.invariant-loop-column
invariant-loop-column l = vec_items l.places ≡ vec_items l.initial.places ++ in_row l.row.0 (those l.column (takes (published l.k) l.row.0 l.through))
