-- The lines to which the block of a place goes, column by column, are those that hold it.
use Rattle.std.proofs.Common.{◌≡◌, ℕ, suc, ◌+◌, ◌-◌, ◌^◌, ◌<◌, ◌≤◌, Bool, true, false, not, ◌&&◌, eqb, ◌≢◌, Some, None, Option, List, get_or, sym, refl, ap, ◌∙◌, arith, pow_pos, eqb-true}
use native.Mathlib.Decide.{ℕ_discrete}
use lib.Bits.{bit_xor, xor_assoc, xor_self, xor_lt}
use borrow.Author.Tests.{eq-true, ne_false}
use Rattle.code.specs.Numbers.{only, xorsum, any}
use Rattle.code.specs.Code.{Rule, rows, meets, horizontal, butterfly}
use Rattle.code.specs.Neighbours.{Tournament}
use Rattle.code.specs.Lines.{takes, holds}
use Rattle.code.proofs.Xor.{sum_next}
use Rattle.code.proofs.Put.{any_none, sum_only, one_column, row_spot, line_spot}
use Rattle.code.proofs.Listed.{any_same, turned}
use Rattle.shelf.specs.Slots.{to_skip, passes, passed, holds_but, to_lines, one}

module _ (k : ℕ) (right : Rule) (i j skip : ℕ) where
  -- the block goes to line n by column t
  abbrev pub by : ℕ → ℕ → Bool
  by n t = eqb n (meets i t) && passes right i j skip t

  first : (b c : Bool) → b && c ≡ true → b ≡ true
  first true c e = refl
  first false c e = e

  and_false : (b : Bool) → b && false ≡ false
  and_false true = refl
  and_false false = refl

  flipped : (n t : ℕ) → eqb n (meets i t) ≡ eqb (meets n t) i
  flipped n t = swapped n (meets i t) ∙ sym (turned n i t)
    where
      swapped : (a b : ℕ) → eqb a b ≡ eqb b a
      swapped a b = elim (ℕ_discrete a b) [ yes e ↦ sym (eq-true a b e) ∙ eq-true b a (sym e) | no h ↦ sym (ne_false a b h) ∙ ne_false b a (λ e. h (sym e)) ]

  -- not through the column to skip: no test there
  skipped : (n t : ℕ) → n ≡ meets i skip → by n t ≡ false
  unfolding passes
  skipped n t e = go (eqb n (meets i t)) refl
    where
      go : (b : Bool) → eqb n (meets i t) ≡ b → b && (not (eqb t skip) && takes right i t j) ≡ false
      go false h = refl
      go true h = ap (λ s. not s && takes right i t j) (sym (eq-true t skip (one_column i t skip (sym (eqb-true n (meets i t) h) ∙ e))))

  kept : (n t : ℕ) → n ≢ meets i skip → by n t ≡ eqb (meets n t) i && takes right i t j
  unfolding passes
  kept n t d = go (eqb n (meets i t)) refl ∙ ap (λ b. b && takes right i t j) (flipped n t)
    where
      go : (b : Bool) → eqb n (meets i t) ≡ b → eqb n (meets i t) && (not (eqb t skip) && takes right i t j) ≡ eqb n (meets i t) && takes right i t j
      go false h = ap (λ b. b && (not (eqb t skip) && takes right i t j)) h ∙ sym (ap (λ b. b && takes right i t j) h)
      go true h =
          ap (λ s. eqb n (meets i t) && (not s && takes right i t j))
          (sym (ne_false t skip (λ e. d (eqb-true n (meets i t) h ∙ ap (meets i) e))))

  any_by : (n : ℕ) → any k (by n) ≡ holds_but k right i j skip n
  unfolding holds_but holds
  any_by n =
      elim (ℕ_discrete n (meets i skip)) [
        | yes e ↦
            any_none k (by n) (λ t _. skipped n t e)
            ∙ sym (and_false (any k (λ t. eqb (meets n t) i && takes right i t j)))
            ∙ ap (λ b. any k (λ t. eqb (meets n t) i && takes right i t j) && not b) (eq-true n (meets i skip) e)
        | no d ↦
            any_same k (by n) (λ t. eqb (meets n t) i && takes right i t j) (λ t. kept n t d)
            ∙ sym (and_true (any k (λ t. eqb (meets n t) i && takes right i t j)))
            ∙ ap (λ b. any k (λ t. eqb (meets n t) i && takes right i t j) && not b) (ne_false n (meets i skip) d)
      ]
    where
      and_true : (b : Bool) → b && true ≡ b
      and_true true = refl
      and_true false = refl

  -- the sum over the columns is the block where the line holds its place
  pub sum_by : (n x : ℕ) → xorsum k (λ t. only (by n t) x) ≡ only (holds_but k right i j skip n) x
  sum_by n x =
      sum_only k x (by n)
      (λ a b _ _ ta tb. one_column i a b (sym (eqb-true n (meets i a) (first (eqb n (meets i a)) (passes right i j skip a) ta)) ∙ eqb-true n (meets i b) (first (eqb n (meets i b)) (passes right i j skip b) tb)))
      ∙ ap (λ b. only b x) (any_by n)

-- the columns one by one
module _ (right : Rule) (i j skip : ℕ) (x : List ℕ) (b n : ℕ) where
  pub passed_none : passed right i j skip x 0 b n ≡ 0
  unfolding passed xorsum
  passed_none = refl

  pub passed_next : (t : ℕ) → passed right i j skip x (t + 1) b n ≡ bit_xor (passed right i j skip x t b n) (only (eqb n (meets i t) && passes right i j skip t) (get_or x b 0))
  unfolding passed
  passed_next t = sum_next t (λ s. only (eqb n (meets i s) && passes right i j skip s) (get_or x b 0))

  pub passed_all : (k : ℕ) → passed right i j skip x k b n ≡ to_lines k right i j skip x b n
  unfolding passed to_lines
  passed_all k = sum_by k right i j skip n (get_or x b 0)

-- ---- no column is skipped: column k is none, and no line meets it in a row

pub past : (k i n : ℕ) → 1 ≤ k → i < rows k → n < rows k → n ≢ meets i k
unfolding rows meets
past k i n kl il nl e =
    let s : bit_xor i n ≡ 2 ^ k - 1 = ap (bit_xor i) e ∙ sym (xor_assoc i i (2 ^ k - 1)) ∙ ap (λ (x : ℕ). bit_xor x (2 ^ k - 1)) (xor_self i) in
    let l : bit_xor i n < 2 ^ (k - 1) = xor_lt (k - 1) i n il nl in
    let p : 2 ^ k ≡ 2 ^ suc (k - 1) = ap (λ (x : ℕ). 2 ^ x) (pred k kl) in
    absurd (omega (arith, pow_pos (k - 1)))
  where
    pred : (k : ℕ) → 1 ≤ k → k ≡ suc (k - 1)
    pred k l = omega arith

-- the block of a place alone, summed: its row has it, and the lines that hold the place
module _ (k : ℕ) (right : Rule) (law : Tournament k right) (i j : ℕ) (il : i < rows k) (jk : j < k) (x : List ℕ) (b : ℕ) where
  pub row_of_one : (r : ℕ) → only (eqb r i) (get_or x b 0) ≡ horizontal k (one i j x b) r
  row_of_one r = sym (row_spot k right law i j (get_or x b 0) jk r)

  pub lines_of_one : (n : ℕ) → n < rows k → to_lines k right i j k x b n ≡ butterfly k right (one i j x b) n
  unfolding to_lines holds_but
  lines_of_one n nl =
      ap (λ s. only (holds k right n i j && not s) (get_or x b 0)) (sym (ne_false n (meets i k) (past k i n (omega arith) il nl)))
      ∙ ap (λ s. only s (get_or x b 0)) (and_true (holds k right n i j))
      ∙ sym (line_spot k right law i j (get_or x b 0) jk n)
    where
      and_true : (b : Bool) → b && true ≡ b
      and_true true = refl
      and_true false = refl

-- ---- the column to skip

pub passes_unskipped : (right : Rule) (i j k : ℕ) (skip : Option ℕ) (t : ℕ) → t < k → (skip ≡ Some t → ⊥) → passes right i j (to_skip k skip) t ≡ takes right i t j
unfolding passes
passes_unskipped right i j k None t l h = ap (λ x. not x && takes right i t j) (sym (ne_false t k (omega arith)))
passes_unskipped right i j k (Some s) t l h = ap (λ x. not x && takes right i t j) (sym (ne_false t s (λ e. h (ap Some (sym e)))))

pub passes_skipped : (right : Rule) (i j k : ℕ) (skip : Option ℕ) (t : ℕ) → skip ≡ Some t → passes right i j (to_skip k skip) t ≡ false
unfolding passes
passes_skipped right i j k skip t e = ap (λ o. not (eqb t (to_skip k o)) && takes right i t j) e ∙ ap (λ x. not x && takes right i t j) (sym (eq-true t t refl))
