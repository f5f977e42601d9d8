use Rattle.std.proofs.Common.{◌≡◌, not, ◌&&◌, sym, ap, ◌∙◌, ap₂, arith}
use mathlib.Core.Bool.{beq}
use borrow.Author.Tests.{eq-true, ne_false}
use Rattle.code.specs.Neighbours.{published}
use Rattle.code.specs.Lines.{takes}
use Rattle.shelf.specs.Regaining.{wants}
use Rattle.shelf.proofs.regain.is_wanted.Goals as goal

pub returns-then-column-lost : goal.returns-then-column-lost
unfolding wants
returns-then-column-lost c =
    let right = published c.args.k.number in
    let i = c.args.row.0 in
    let t = c.args.through in
    ap₂ (λ a b. not (beq a b)) c.is_taken.ensures c.is_taken-then-column-lost.ensures
    ∙ ap (λ b. not b && not (beq (takes right i t c.args.column) (takes right i t c.args.lost))) (ne_false c.args.column c.args.lost (omega arith))

pub returns-else-column-lost : goal.returns-else-column-lost
unfolding wants
returns-else-column-lost c =
    let right = published c.args.k.number in
    let i = c.args.row.0 in
    let t = c.args.through in
    let e : c.args.column ≡ c.args.lost = omega arith in
    ap not (sym (eq-true c.args.column c.args.lost e))
    ∙ ap (λ b. not b && not (beq (takes right i t c.args.column) (takes right i t c.args.lost))) (eq-true c.args.column c.args.lost e)
