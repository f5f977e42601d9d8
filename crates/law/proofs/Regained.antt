-- The formula for a data column that alone is out gives the data that the other columns fit.
use Rattle.std.proofs.Common.{◌≡◌, ℕ, ◌+◌, ◌<◌, Bool, true, false, cond, not, eqb, ◌≢◌, sym, refl, ap, ◌∙◌, eqb-true}
use lib.Bits.{bit_xor, xor_self, xor_zero_r}
use borrow.Author.Tests.{eqb-false, eq-true, ne_false}
use Rattle.code.specs.Numbers.{only, xorsum}
use Rattle.code.specs.Code.{Blocks, Rule, rows, dark, meets, horizontal, beside, gives, butterfly}
use Rattle.code.proofs.Xor.{sum_same, sum_xor, sum_one, only_false}
use Rattle.code.proofs.Rows.{back, meets_lt}
use Rattle.code.proofs.Linear.{gives_same}
use Rattle.law.specs.Hand.{others, by_row, with_row, by_line, regained}

module _ (k j : ℕ) (jk : j < k) where
  -- a whole sum and the sum of the others leave the one
  pub others_right : (f g : ℕ → ℕ) → ((c : ℕ) → c < k → c ≢ j → f c ≡ g c) → bit_xor (xorsum k g) (others k j f) ≡ g j
  unfolding others only
  others_right f g same =
      ap (bit_xor (xorsum k g))
      (sum_same k (λ c. only (not (eqb c j)) (f c)) (λ c. only (not (eqb c j)) (g c)) (λ c l. each c l (eqb c j) refl))
      ∙ sym (sum_xor k g (λ c. only (not (eqb c j)) (g c)))
      ∙ sum_one k (λ c. bit_xor (g c) (only (not (eqb c j)) (g c))) j jk (λ c l n. ap (λ t. bit_xor (g c) (only (not t) (g c))) (sym (ne_false c j n)) ∙ xor_self (g c))
      ∙ ap (λ t. bit_xor (g j) (only (not t) (g j))) (sym (eq-true j j refl)) ∙ xor_zero_r (g j)
    where
      each : (c : ℕ) → c < k → (b : Bool) → eqb c j ≡ b → only (not (eqb c j)) (f c) ≡ only (not (eqb c j)) (g c)
      each c l true e = ap (λ t. only (not t) (f c)) e ∙ sym (ap (λ t. only (not t) (g c)) e)
      each c l false e = ap (only (not (eqb c j))) (same c l (eqb-false c j e))

module _ (k : ℕ) (right : Rule) (X M : Blocks) (j : ℕ) (jk : j < k)
    (data-held : (i c : ℕ) → i < rows k → c < k → c ≢ j → M i c ≡ X i c)
    (sums-held : (i : ℕ) → i < rows k → M i k ≡ horizontal k X i)
    (lines-held : (n : ℕ) → n < rows k → M n (k + 1) ≡ butterfly k right X n) where
  by_row_right : (i : ℕ) → i < rows k → by_row k M j i ≡ X i j
  unfolding by_row horizontal
  by_row_right i l =
      ap (λ x. bit_xor x (others k j (M i))) (sums-held i l) ∙ others_right k j jk (M i) (X i) (λ c ck n. data-held i c l ck n)

  with_row_right : (i c : ℕ) → i < rows k → c < k → with_row k M j i c ≡ X i c
  unfolding with_row
  with_row_right i c l ck = go (eqb c j) refl
    where
      go : (b : Bool) → eqb c j ≡ b → cond b (by_row k M j i) (M i c) ≡ X i c
      go true e = by_row_right i l ∙ ap (X i) (sym (eqb-true c j e))
      go false e = data-held i c l ck (eqb-false c j e)

  by_line_right : (i : ℕ) → i < rows k → dark i j ≡ false → by_line k right M j i ≡ X i j
  unfolding by_line butterfly gives
  by_line_right i l e =
      ap (λ x. bit_xor x (others k j (λ c. gives k right (with_row k M j) (meets n c) c))) (lines-held n nl)
      ∙ others_right k j jk (λ c. gives k right (with_row k M j) (meets n c) c) (λ c. gives k right X (meets n c) c)
      (λ c ck _. gives_same k right (with_row k M j) X with_row_right (meets n c) c (meets_lt k n c nl ck) ck)
      ∙ ap (λ u. gives k right X u j) (back i j)
      ∙ ap (bit_xor (X i j)) (only_false (dark i j) (beside k right X i j) e) ∙ xor_zero_r (X i j)
    where
      n : ℕ
      n = meets i j

      nl : n < rows k
      nl = meets_lt k i j l jk

  pub regained_right : (i : ℕ) → i < rows k → regained k right M j i ≡ X i j
  unfolding regained
  regained_right i l = go (dark i j) refl
    where
      go : (b : Bool) → dark i j ≡ b → cond b (by_row k M j i) (by_line k right M j i) ≡ X i j
      go true e = by_row_right i l
      go false e = by_line_right i l e
