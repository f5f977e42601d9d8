use Rattle.std.proofs.Common.{◌≡◌, ℕ, Bool, ◌∷◌, ◌++◌, map, vec_items, ap, ◌∙◌, sym, cond, [], arith}
use Rattle.std.proofs.lemmas.List.{map_push}
use Rattle.code.specs.Numbers.{those}
use Rattle.code.specs.Code.{meets}
use Rattle.code.specs.Neighbours.{published}
use Rattle.code.specs.Lines.{takes, lines_of, among}
use Rattle.code.specs.Numbered.{numbers}
use Rattle.code.proofs.Limits.{a_width, place_width}
use Rattle.code.proofs.Listed.{list_more, list_less, holds_listed}
use Rattle.code.proofs.lines.lines_of.Goals as goal
use Rattle.code.proofs.lines.lines_of.Goals.{then-is_taken+in_ok-push, else-is_taken}

pub loop-through-init : goal.loop-through-init
unfolding those
loop-through-init c = ap numbers c.new-lines.ensures.items

pub loop-through-preserved : goal.loop-through-preserved
loop-through-preserved c =
    let k = c.args.k in
    let i = c.args.row.0 in
    let width = a_width k (place_width k i c.args.column (sym c.if-not-is_place.ensures)) in
    let f : ℕ → Bool = λ t. takes (published k) i t c.args.column in
    elim c.if-is_taken.branch [
      | then-is_taken+in_ok-push w ↦
          list_more (meets i) f c.loop-through.through [] _ c.loop-through.invariant _ (sym c.is_taken.ensures ∙ w.if-is_taken.true)
          (ap (λ v. numbers (vec_items v)) w.lines-is ∙ ap numbers w.in_ok-push.ensures.items
          ∙ map_push (λ n. n.0) (vec_items c.loop-through.lines) w.line.result
          ∙ ap (λ n. numbers (vec_items c.loop-through.lines) ++ n ∷ []) (w.line.ensures.within (omega arith)))
      | else-is_taken w ↦
          list_less (meets i) f c.loop-through.through [] _ c.loop-through.invariant _ (sym c.is_taken.ensures ∙ w.if-is_taken.false)
          (ap (λ v. numbers (vec_items v)) w.lines-is)
    ]

pub returns : goal.returns
unfolding lines_of
returns c =
    let k = c.args.k in
    let i = c.args.row.0 in
    let j = c.args.column in
    let end : c.loop-through.through ≡ k = omega arith in
    let all : numbers (vec_items c.loop-through.lines) ≡ lines_of k (published k) i j =
    c.loop-through.invariant ∙ ap (λ n. map (meets i) (those n (λ t. takes (published k) i t j))) end
    in
    record {
      listed = all ∙ ap (λ b. cond b (lines_of k (published k) i j) []) c.if-not-is_place.ensures;
      holding = λ _ n. holds_listed k (published k) n i j ∙ ap (among n) (sym all);
    }
