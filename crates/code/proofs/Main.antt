-- Any two columns can be lost, and half of the others tells one lost data column.
use Rattle.std.proofs.Common.{◌≡◌, ℕ, ◌+◌, ◌<◌, Bool, true, false, not, ◌≢◌, sym, refl, ap, ◌∙◌, arith, ext_get_or}
use native.Mathlib.Decide.{ℕ_discrete, dec_lt}
use Rattle.code.specs.Code.{Blocks, Rule, rows, meets, horizontal, butterfly, value}
use Rattle.code.specs.Neighbours.{Tournament}
use Rattle.code.specs.Laws.{AnyTwo, AnyTwoBlocks, lane, Half, SolveTwo, SolveOne}
use Rattle.code.proofs.Xor.{xor_zero_eq, xor_eq_zero}
use Rattle.code.proofs.Linear.{difference, value_data, value_horizontal, value_butterfly, value_xor, horizontal_xor, butterfly_xor}
use Rattle.code.proofs.Lost.{by_row, half_none, one_none, two_none, one_step, two_step}

module _ (k : ℕ) (right : Rule) (law : Tournament k right) (X : Blocks) (p q : ℕ) (p<q : p < q) (qk : q < k + 2)
    (zeros : (c r : ℕ) → c < k + 2 → c ≢ p → c ≢ q → r < rows k → value k right X c r ≡ 0) where
  columns : (i c : ℕ) → i < rows k → c < k → c ≢ p → c ≢ q → X i c ≡ 0
  columns i c l ck n m = sym (value_data k right X c i ck) ∙ zeros c i (omega arith) n m l

  sums : k ≢ p → k ≢ q → (i : ℕ) → i < rows k → horizontal k X i ≡ 0
  sums n m i l = sym (value_horizontal k right X i) ∙ zeros k i (omega arith) n m l

  lines : k + 1 ≢ p → k + 1 ≢ q → (i : ℕ) → i < rows k → butterfly k right X i ≡ 0
  lines n m i l = sym (value_butterfly k right X i) ∙ zeros (k + 1) i (omega arith) n m l

  both : q < k → (b : Bool) → right q p ≡ b → (i : ℕ) → i < rows k → (X i p ≡ 0) × (X i q ≡ 0)
  both qd true r i l = two_none k right law X p q (omega arith) qd (omega arith) r columns (sums (omega arith) (omega arith)) (lines (omega arith) (omega arith)) i l
  both qd false r i l =
      let h : (X i q ≡ 0) × (X i p ≡ 0) =
      two_none k right law X q p qd (omega arith) (omega arith) (law.one_way p q (omega arith) qd (omega arith) ∙ ap not r)
      (λ i c l ck n m. columns i c l ck m n) (sums (omega arith) (omega arith)) (lines (omega arith) (omega arith)) i l in
      (h.1, h.0)

  -- what column p holds, if it is a data column
  first : p < k → (i : ℕ) → i < rows k → X i p ≡ 0
  first pd i l =
      elim (dec_lt q k) [
        | yes qd ↦ (both qd (right q p) refl i l).0
        | no n ↦
            elim (ℕ_discrete q k) [
              | yes e ↦ one_none k right law X p pd (λ i c l ck m. columns i c l ck m (omega arith)) (lines (omega arith) (omega arith)) i l
              | no m ↦ by_row k right X i p pd (sums (omega arith) (omega arith) i l) (λ j jk o. columns i j l jk o (omega arith))
            ]
      ]

  none : (i j : ℕ) → i < rows k → j < k → X i j ≡ 0
  none i j l jk =
      elim (ℕ_discrete j p) [
        | yes e ↦ ap (X i) e ∙ first (omega arith) i l
        | no n ↦
            elim (ℕ_discrete j q) [
              | yes e ↦ ap (X i) e ∙ (both (omega arith) (right q p) refl i l).1
              | no m ↦ columns i j l jk n m
            ]
      ]

pub any_two : AnyTwo
any_two k right law p q pk qk d D E same i j l jk =
    xor_zero_eq (D i j) (E i j)
    (elim (dec_lt p q) [
      | yes lt ↦ none k right law (difference D E) p q lt qk zeros i j l jk
      | no n ↦ none k right law (difference D E) q p (omega arith) pk (λ c r cl m m' rl. zeros c r cl m' m rl) i j l jk
    ])
  where
    zeros : (c r : ℕ) → c < k + 2 → c ≢ p → c ≢ q → r < rows k → value k right (difference D E) c r ≡ 0
    zeros c r cl n m rl = value_xor k right D E c r ∙ xor_eq_zero (value k right D c r) (value k right E c r) (same c r cl n m rl)

pub any_two_blocks : AnyTwoBlocks
any_two_blocks k size right law p q pk qk d D E dl el same i j l jk =
    ext_get_or 0 (D i j) (E i j) (dl i j l jk ∙ sym (el i j l jk))
    (λ b bl. any_two k right law p q pk qk d (lane D b) (lane E b) (λ c r ck n m rl. same c r b ck n m rl (omega (arith, dl i j l jk))) i j l jk)

pub half : Half
half k right j jk D E a i l =
    xor_zero_eq (D i j) (E i j)
    (half_none k right (difference D E) j jk
    (λ i c l e ck n. xor_eq_zero (D i c) (E i c) (a.columns i c l e ck n))
    (λ i l e. horizontal_xor k right D E i ∙ xor_eq_zero (horizontal k D i) (horizontal k E i) (a.sums i l e))
    (λ i l e. butterfly_xor k right D E _ ∙ xor_eq_zero _ _ (a.lines i l e))
    i l)

pub solve_two : SolveTwo
solve_two k right law p q pk qk d r D M columns sums v l ih =
    two_step k right law (difference D M) p q pk qk d r (λ i c il ck n m. xor_eq_zero (D i c) (M i c) (columns i c il ck n m))
    (λ i il. horizontal_xor k right D M i ∙ xor_eq_zero (horizontal k D i) (horizontal k M i) (sums i il))
    v l (λ u ul lt. xor_eq_zero (D u p) (M u p) (ih u ul lt))
    ∙ butterfly_xor k right D M (meets v p)

pub solve_one : SolveOne
solve_one k right law p pk D M columns v l ih =
    one_step k right law (difference D M) p pk (λ i c il ck n. xor_eq_zero (D i c) (M i c) (columns i c il ck n))
    v l (λ u ul lt. xor_eq_zero (D u p) (M u p) (ih u ul lt))
    ∙ butterfly_xor k right D M (meets v p)
