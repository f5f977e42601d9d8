use Rattle.std.proofs.Common.{◌≡◌, ◌+◌, Bool, true, false, ◌&&◌, eqb, get_or, sym, refl, ap, ◌∙◌, arith}
use Rattle.code.specs.Numbers.{only}
use Rattle.code.specs.Code.{rows, meets}
use Rattle.code.proofs.Limits.{a_width}
use Rattle.code.proofs.Rows.{meets_lt}
use Rattle.shelf.specs.Slots.{nothing}
use Rattle.shelf.proofs.Benching.{adds_line, adds_none, adds_same}
use Rattle.shelf.proofs.bench.Bench.add_through.Goals as goal

pub add-requires : goal.add-requires
add-requires c =
    let k = c.args.self.now.k.number in
    let w = a_width k c.args.self.now.k.valid in
    let here : c.line.result.0 ≡ meets c.args.row.0 c.args.through = c.line.ensures.within (omega arith) in
    let l = meets_lt k c.args.row.0 c.args.through c.requires.row c.requires.through in
    omega arith

pub returns-then-is_passed : goal.returns-then-is_passed
returns-then-is_passed c =
    let s = c.args.self.now in
    let k = s.k.number in
    let t = c.args.through in
    let w = a_width k s.k.valid in
    let here : c.line_slot.result ≡ rows k + meets c.args.row.0 t = c.line_slot.ensures ∙ ap (λ n. rows k + n) (c.line.ensures.within (omega arith)) in
    adds_same nothing (λ b n. only (eqb n (meets c.args.row.0 t)) (get_or s.block.now b 0)) nothing _ s c.add.new.self (λ _ _ _. refl)
    (λ b n _. ap (λ p. only p (get_or s.block.now b 0)) (sym (and_true (eqb n (meets c.args.row.0 t))) ∙ ap (λ p. eqb n (meets c.args.row.0 t) && p) c.if-is_passed.ensures))
    (adds_line (meets c.args.row.0 t) c.line_slot.result s c.add.new.self here c.add.ensures)
  where
    and_true : (b : Bool) → b && true ≡ b
    and_true true = refl
    and_true false = refl

pub returns-else-is_passed : goal.returns-else-is_passed
unfolding only
returns-else-is_passed c =
    let s = c.args.self.now in
    adds_none _ s
    (λ b n. ap (λ p. only p (get_or s.block.now b 0)) (sym (and_false (eqb n (meets c.args.row.0 c.args.through))) ∙ ap (λ p. eqb n (meets c.args.row.0 c.args.through) && p) c.if-is_passed.ensures))
  where
    and_false : (b : Bool) → b && false ≡ false
    and_false true = refl
    and_false false = refl
