use Rattle.std.proofs.Common.{◌≡◌, ℕ, Bool, ◌++◌, vec_items, ap, ap₂, ◌∙◌, sym, cond, [], append-nil, arith}
use Rattle.code.specs.Numbers.{those}
use Rattle.code.specs.Neighbours.{published}
use Rattle.code.specs.Lines.{takes, in_row, places_below, places_of, sum_of}
use Rattle.code.proofs.Limits.{a_width, line_width, law_of_width}
use Rattle.code.proofs.Listed.{list_more, list_less, places_next, line_sums_places}
use Rattle.code.proofs.lines.places_of.Goals as goal
use Rattle.code.proofs.lines.places_of.Goals.{then-is_taken+in_ok-push, else-is_taken}

pub loop-through-init : goal.loop-through-init
unfolding places_below
loop-through-init c = c.new-places.ensures.items

pub loop-column-init : goal.loop-column-init
unfolding those
loop-column-init c = sym (append-nil _)

pub loop-column-preserved : goal.loop-column-preserved
loop-column-preserved c =
    let i = c.meeting-row.result.0 in
    let f : ℕ → Bool = takes (published c.args.k) i c.loop-through.through in
    elim c.if-is_taken.branch [
      | then-is_taken+in_ok-push w ↦
          list_more (λ j. (i, j)) f c.loop-column.column _ _ c.loop-column.invariant _ (sym c.is_taken.ensures ∙ w.if-is_taken.true)
          (ap vec_items w.places-is ∙ w.in_ok-push.ensures.items)
      | else-is_taken w ↦
          list_less (λ j. (i, j)) f c.loop-column.column _ _ c.loop-column.invariant _ (sym c.is_taken.ensures ∙ w.if-is_taken.false)
          (ap vec_items w.places-is)
    ]

pub loop-through-preserved : goal.loop-through-preserved
loop-through-preserved c =
    let k = c.args.k in
    let n = c.args.line.0 in
    let t = c.loop-through.through in
    let w = a_width k (line_width k n (sym c.if-not-is_line.ensures)) in
    let end : c.loop-column.column ≡ k = omega arith in
    c.loop-column.invariant
    ∙ ap₂ (λ ps m. ps ++ in_row c.meeting-row.result.0 (those m (takes (published k) c.meeting-row.result.0 t))) c.loop-through.invariant end
    ∙ ap (λ i. places_below k (published k) n t ++ in_row i (those k (takes (published k) i t))) (c.meeting-row.ensures.within (omega arith))
    ∙ sym (places_next k (published k) n t)

pub returns : goal.returns
unfolding places_of
returns c =
    let k = c.args.k in
    let n = c.args.line.0 in
    let end : c.loop-through.through ≡ k = omega arith in
    let all : vec_items c.loop-through.places ≡ places_of k (published k) n = c.loop-through.invariant ∙ ap (places_below k (published k) n) end in
    record {
      listed = all ∙ ap (λ b. cond b (places_of k (published k) n) []) c.if-not-is_line.ensures;
      summed = λ is D. line_sums_places D k (published k) (law_of_width k (line_width k n is)) n ∙ ap (sum_of D) (sym all);
    }
