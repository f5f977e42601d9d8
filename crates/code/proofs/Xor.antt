-- Laws of exclusive or and of its sums.
use Rattle.std.proofs.Common.{◌≡◌, ℕ, zero, suc, ◌+◌, ◌<◌, Bool, true, false, cond, ◌≢◌, sym, refl, ap, ◌∙◌, ap₂, add-one, arith}
use native.Mathlib.Decide.{ℕ_discrete}
use lib.Bits.{bit_xor, xor_comm, xor_assoc, xor_self, xor_zero_r}
use Rattle.code.specs.Numbers.{only, xorsum}

-- equal if they differ in nothing
pub xor_zero_eq : (a b : ℕ) → bit_xor a b ≡ 0 → a ≡ b
xor_zero_eq a b e = sym (xor_zero_r a) ∙ ap (bit_xor a) (sym (xor_self b)) ∙ sym (xor_assoc a b b) ∙ ap (λ (x : ℕ). bit_xor x b) e

pub xor_eq_zero : (a b : ℕ) → a ≡ b → bit_xor a b ≡ 0
xor_eq_zero a b e = ap (λ (x : ℕ). bit_xor x b) e ∙ xor_self b

pub xor_swap : (a b c d : ℕ) → bit_xor (bit_xor a b) (bit_xor c d) ≡ bit_xor (bit_xor a c) (bit_xor b d)
xor_swap a b c d =
    xor_assoc a b (bit_xor c d)
    ∙ ap (bit_xor a) (sym (xor_assoc b c d) ∙ ap (λ (x : ℕ). bit_xor x d) (xor_comm b c) ∙ xor_assoc c b d)
    ∙ sym (xor_assoc a c (bit_xor b d))

pub only_xor : (b : Bool) (x y : ℕ) → only b (bit_xor x y) ≡ bit_xor (only b x) (only b y)
unfolding only
only_xor true x y = refl
only_xor false x y = refl

pub only_zero : (b : Bool) (x : ℕ) → (b ≡ true → x ≡ 0) → only b x ≡ 0
unfolding only
only_zero true x h = h refl
only_zero false x h = refl

pub sum_same : (k : ℕ) (f g : ℕ → ℕ) → ((j : ℕ) → j < k → f j ≡ g j) → xorsum k f ≡ xorsum k g
unfolding xorsum
sum_same zero f g h = refl
sum_same (suc k) f g h = ap₂ bit_xor (sum_same k f g (λ j l. h j (omega arith))) (h k (omega arith))

pub sum_xor : (k : ℕ) (f g : ℕ → ℕ) → xorsum k (λ j. bit_xor (f j) (g j)) ≡ bit_xor (xorsum k f) (xorsum k g)
unfolding xorsum
sum_xor zero f g = refl
sum_xor (suc k) f g = ap (λ (x : ℕ). bit_xor x (bit_xor (f k) (g k))) (sum_xor k f g) ∙ xor_swap (xorsum k f) (xorsum k g) (f k) (g k)

-- a sum of nothing, of one number, and of two
pub sum_none : (k : ℕ) (f : ℕ → ℕ) → ((j : ℕ) → j < k → f j ≡ 0) → xorsum k f ≡ 0
unfolding xorsum
sum_none zero f h = refl
sum_none (suc k) f h = ap₂ bit_xor (sum_none k f (λ j l. h j (omega arith))) (h k (omega arith))

pub sum_one : (k : ℕ) (f : ℕ → ℕ) (p : ℕ) → p < k → ((j : ℕ) → j < k → j ≢ p → f j ≡ 0) → xorsum k f ≡ f p
unfolding xorsum
sum_one zero f p l h = omega arith
sum_one (suc k) f p l h =
    elim (ℕ_discrete p k) [
      | yes e ↦ ap₂ bit_xor (sum_none k f (λ j m. h j (omega arith) (omega arith))) (ap f (sym e))
      | no n ↦ ap₂ bit_xor (sum_one k f p (omega arith) (λ j m. h j (omega arith))) (h k (omega arith) (omega arith)) ∙ xor_zero_r (f p)
    ]

pub sum_two : (k : ℕ) (f : ℕ → ℕ) (p q : ℕ) → p < k → q < k → p ≢ q
    → ((j : ℕ) → j < k → j ≢ p → j ≢ q → f j ≡ 0) → xorsum k f ≡ bit_xor (f p) (f q)
unfolding xorsum
sum_two zero f p q l m d h = omega arith
sum_two (suc k) f p q l m d h =
    elim (ℕ_discrete p k) [
      | yes e ↦ ap₂ bit_xor (sum_one k f q (omega arith) (λ j o. h j (omega arith) (omega arith))) (ap f (sym e)) ∙ xor_comm (f q) (f p)
      | no n ↦
          elim (ℕ_discrete q k) [
            | yes e ↦ ap₂ bit_xor (sum_one k f p (omega arith) (λ j o d'. h j (omega arith) d' (omega arith))) (ap f (sym e))
            | no n' ↦
                ap₂ bit_xor (sum_two k f p q (omega arith) (omega arith) d (λ j o. h j (omega arith))) (h k (omega arith) (omega arith) (omega arith))
                ∙ xor_zero_r (bit_xor (f p) (f q))
          ]
    ]

-- a loop adds the next number
pub sum_next : (k : ℕ) (f : ℕ → ℕ) → xorsum (k + 1) f ≡ bit_xor (xorsum k f) (f k)
unfolding xorsum
sum_next k f = ap (λ n. xorsum n f) (add-one k)

pub only_true : (b : Bool) (x : ℕ) → b ≡ true → only b x ≡ x
unfolding only
only_true b x e = ap (λ t. cond t x 0) e

pub only_false : (b : Bool) (x : ℕ) → b ≡ false → only b x ≡ 0
unfolding only
only_false b x e = ap (λ t. cond t x 0) e
