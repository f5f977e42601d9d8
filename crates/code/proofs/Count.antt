-- How many numbers below k pass a test.
use Rattle.std.proofs.Common.{◌≡◌, ℕ, zero, suc, ◌+◌, ◌<◌, ◌≤◌, Bool, true, false, cond, ◌≢◌, sym, refl, ap, ◌∙◌, ap₂, add-one, arith}
use native.Mathlib.Decide.{ℕ_discrete}
use Rattle.code.specs.Numbers.{count}

pub count_same : (k : ℕ) (f g : ℕ → Bool) → ((i : ℕ) → i < k → f i ≡ g i) → count k f ≡ count k g
unfolding count
count_same zero f g h = refl
count_same (suc k) f g h = ap₂ (λ n b. n + cond b 1 0) (count_same k f g (λ i l. h i (omega arith))) (h k (omega arith))

-- one number less
pub count_less : (k : ℕ) (f g : ℕ → Bool) (j : ℕ) → j < k → f j ≡ false → g j ≡ true
    → ((i : ℕ) → i < k → i ≢ j → f i ≡ g i) → count k f < count k g
unfolding count
count_less zero f g j l e e' h = omega arith
count_less (suc k) f g j l e e' h =
    elim (ℕ_discrete j k) [
      | yes y ↦
          omega (
            arith,
            count_same k f g (λ i m. h i (omega arith) (omega arith)),
            ap (λ b. cond {A = ℕ} b 1 0) (ap f (sym y) ∙ e),
            ap (λ b. cond {A = ℕ} b 1 0) (ap g (sym y) ∙ e'),
          )
      | no n ↦ omega (arith, count_less k f g j (omega arith) e e' (λ i m. h i (omega arith)), ap (λ b. cond {A = ℕ} b 1 0) (h k (omega arith) (omega arith)))
    ]

-- a test counts for one at most
pub one_at_most : (b : Bool) → cond {A = ℕ} b 1 0 ≤ 1
one_at_most true = omega arith
one_at_most false = omega arith

pub count_le : (k : ℕ) (f : ℕ → Bool) → count k f ≤ k
unfolding count
count_le zero f = omega arith
count_le (suc k) f = omega (arith, count_le k f, one_at_most (f k))

-- a loop counts the next number, or passes over it
pub count_next : (k : ℕ) (f : ℕ → Bool) → count (k + 1) f ≡ count k f + cond (f k) 1 0
unfolding count
count_next k f = ap (λ n. count n f) (add-one k)
