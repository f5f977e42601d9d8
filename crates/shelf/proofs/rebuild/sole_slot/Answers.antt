use Rattle.std.proofs.Common.{◌≡◌, false, sym, ◌∙◌, arith}
use Rattle.code.specs.Code.{dark}
use Rattle.code.proofs.Limits.{a_width}
use Rattle.code.proofs.Rows.{meets_lt}
use Rattle.shelf.proofs.rebuild.sole_slot.Goals as goal

pub returns-else-is_dark-clause-within : goal.returns-else-is_dark-clause-within
returns-else-is_dark-clause-within c =
    let k = c.args.k.number in
    let j = c.args.column in
    let i = c.args.row.0 in
    let w = a_width k c.args.k.valid in
    let e = c.line.ensures.within (omega arith) in
    let l = meets_lt k i j c.requires.row c.requires.column in
    let white : dark i j ≡ false = sym c.is_dark.ensures ∙ c.if-is_dark.false in
    omega (arith, c.line_slot.ensures)
