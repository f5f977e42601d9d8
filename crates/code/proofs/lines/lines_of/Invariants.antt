-- The lines that meet the columns below `through` are listed.
use Rattle.std.proofs.Common.{◌≡◌, map, vec_items}
use Rattle.code.specs.Numbers.{those}
use Rattle.code.specs.Code.{meets}
use Rattle.code.specs.Neighbours.{published}
use Rattle.code.specs.Lines.{takes}
use Rattle.code.specs.Numbered.{numbers}
use Rattle.code.proofs.lines.lines_of.Given as goal

abbrev pub invariant-loop-through : goal.invariant-loop-through
invariant-loop-through l = numbers (vec_items l.lines) ≡ map (meets l.row.0) (those l.through (λ t. takes (published l.k) l.row.0 t l.fn.column))
