-- A new block at one place changes the sum of its row, and the lines that hold the place.
use Rattle.std.proofs.Common.{◌≡◌, ℕ, zero, suc, ◌-◌, ◌^◌, ◌<◌, Bool, true, false, cond, ◌&&◌, ◌||◌, eqb, ◌≢◌, sym, refl, ap, ◌∙◌, ap₂, true≢false, arith, pow_pos, eqb-true}
use mathlib.Core.Path.{fun_ext}
use native.Mathlib.Decide.{dec_lt}
use lib.Bits.{bit_xor, xor_assoc, xor_self, xor_zero_r}
use lib.Pow.{pow-lt}
use Rattle.std.proofs.Math.Bool.{and-true, or-false}
use Rattle.std.proofs.lemmas.Bool.{and_parts}
use borrow.Author.Tests.{eq-true, ne_false}
use Rattle.code.specs.Numbers.{only, xorsum, any}
use Rattle.code.specs.Code.{Blocks, Rule, spot, dark, meets, horizontal, beside, gives, butterfly}
use Rattle.code.specs.Neighbours.{Tournament}
use Rattle.code.specs.Lines.{takes, holds}
use Rattle.code.specs.Laws.{changed, PutRule}
use Rattle.code.proofs.Xor.{only_zero, sum_same, sum_one}
use Rattle.code.proofs.Linear.{difference, horizontal_xor, butterfly_xor}

pub any_none : (k : ℕ) (c : ℕ → Bool) → ((j : ℕ) → j < k → c j ≡ false) → any k c ≡ false
unfolding any
any_none zero c h = refl
any_none (suc k) c h = ap₂ (λ a b. a || b) (any_none k c (λ j l. h j (omega arith))) (h k (omega arith))

pub not_so : (b : Bool) → (b ≡ true → ⊥) → b ≡ false
not_so true h = absurd (h refl)
not_so false h = refl

only_off : (b : Bool) (x : ℕ) → only (b && false) x ≡ 0
unfolding only
only_off true x = refl
only_off false x = refl

only_and : (b c : Bool) (x : ℕ) → only b (only c x) ≡ only (b && c) x
unfolding only
only_and true c x = refl
only_and false c x = refl

-- a sum of one number, taken where at most one test passes
pub sum_only : (k x : ℕ) (c : ℕ → Bool) → ((a b : ℕ) → a < k → b < k → c a ≡ true → c b ≡ true → a ≡ b) → xorsum k (λ j. only (c j) x) ≡ only (any k c) x
unfolding xorsum any only
sum_only zero x c h = refl
sum_only (suc k) x c h = go (c k) refl (sum_only k x c (λ a b al bl. h a b (omega arith) (omega arith)))
  where
    go : (b : Bool) → c k ≡ b → xorsum k (λ j. only (c j) x) ≡ only (any k c) x → bit_xor (xorsum k (λ j. only (c j) x)) (only (c k) x) ≡ only (any k c || c k) x
    go false e ih =
        ap (λ b. bit_xor (xorsum k (λ j. only (c j) x)) (only b x)) e ∙ xor_zero_r (xorsum k (λ j. only (c j) x)) ∙ ih
        ∙ ap (λ b. only b x) (sym (or-false (any k c)) ∙ ap (λ b. any k c || b) (sym e))
    go true e ih =
        let z : any k c ≡ false = any_none k c (λ j l. not_so (c j) (λ t. omega (arith, h j k (omega arith) (omega arith) t e))) in
        ap₂ bit_xor (ih ∙ ap (λ b. only b x) z) (ap (λ b. only b x) e) ∙ ap₂ (λ a b. only (a || b) x) (sym z) (sym e)

-- a line meets no two columns in one row
pub one_column : (n a b : ℕ) → meets n a ≡ meets n b → a ≡ b
unfolding meets
one_column n a b e =
    elim (dec_lt a b) [
      | yes l ↦ absurd (omega (arith, e', pow-lt l, pow_pos a))
      | no h ↦ elim (dec_lt b a) [ yes l ↦ absurd (omega (arith, e', pow-lt l, pow_pos b)) | no h' ↦ omega arith ]
    ]
  where
    cancel : (x y : ℕ) → bit_xor n x ≡ bit_xor n y → x ≡ y
    cancel x y e =
        sym (ap (λ t. bit_xor t x) (xor_self n)) ∙ xor_assoc n n x ∙ ap (bit_xor n) e ∙ sym (xor_assoc n n y) ∙ ap (λ t. bit_xor t y) (xor_self n)

    e' : 2 ^ a - 1 ≡ 2 ^ b - 1
    e' = cancel (2 ^ a - 1) (2 ^ b - 1) e

-- the parts of what a place gives, by cases
mix : (e j d d' r : Bool) (x : ℕ) → (e ≡ true → d ≡ d') → (j ≡ true → r ≡ false)
    → bit_xor (only (e && j) x) (only d (only (r && e) x)) ≡ only (e && (j || (d' && r))) x
unfolding only
mix false j false d' r x h g = refl
mix false j true d' false x h g = refl
mix false j true d' true x h g = refl
mix true true d d' true x h g = absurd (true≢false (g refl))
mix true true true d' false x h g = xor_zero_r x
mix true true false d' false x h g = xor_zero_r x
mix true false true d' false x h g = sym (only_off d' x)
mix true false false d' false x h g = sym (only_off d' x)
mix true false d d' true x h g = ap (λ b. only b x) (h refl ∙ sym (and-true d'))

module _ (k : ℕ) (right : Rule) (law : Tournament k right) (i j x : ℕ) (jk : j < k) where
  spot_off : (u j' : ℕ) → j' ≢ j → spot i j x u j' ≡ 0
  unfolding spot
  spot_off u j' n = ap (λ t. only (eqb u i && t) x) (sym (ne_false j' j n)) ∙ only_off (eqb u i) x

  spot_on : (u : ℕ) → spot i j x u j ≡ only (eqb u i) x
  unfolding spot
  spot_on u = ap (λ t. only (eqb u i && t) x) (sym (eq-true j j refl)) ∙ ap (λ t. only t x) (and-true (eqb u i))

  pub row_spot : (r : ℕ) → horizontal k (spot i j x) r ≡ only (eqb r i) x
  unfolding horizontal
  row_spot r = sum_one k (spot i j x r) j jk (λ j' l n. spot_off r j' n) ∙ spot_on r

  beside_spot : (u j' : ℕ) → beside k right (spot i j x) u j' ≡ only (right j' j && eqb u i) x
  unfolding beside
  beside_spot u j' =
      sum_one k (λ j''. only (right j' j'') (spot i j x u j'')) j jk (λ j'' l n. only_zero (right j' j'') (spot i j x u j'') (λ _. spot_off u j'' n))
      ∙ ap (only (right j' j)) (spot_on u) ∙ only_and (right j' j) (eqb u i) x

  gives_spot : (u j' : ℕ) → gives k right (spot i j x) u j' ≡ only (eqb u i && takes right i j' j) x
  unfolding gives takes spot
  gives_spot u j' =
      ap (λ y. bit_xor (spot i j x u j') (only (dark u j') y)) (beside_spot u j')
      ∙ mix (eqb u i) (eqb j' j) (dark u j') (dark i j') (right j' j) x (λ e. ap (λ v. dark v j') (eqb-true u i e))
      (λ e. ap (λ t. right t j) (eqb-true j' j e) ∙ law.not_own j jk)

  pub line_spot : (n : ℕ) → butterfly k right (spot i j x) n ≡ only (holds k right n i j) x
  unfolding butterfly holds
  line_spot n =
      sum_same k (λ j'. gives k right (spot i j x) (meets n j') j') (λ j'. only (passes j') x) (λ j' l. gives_spot (meets n j') j')
      ∙ sum_only k x passes (λ a b al bl ta tb. one_column n a b (in_row a ta ∙ sym (in_row b tb)))
    where
      passes : ℕ → Bool
      passes j' = eqb (meets n j') i && takes right i j' j

      in_row : (a : ℕ) → passes a ≡ true → meets n a ≡ i
      in_row a t = eqb-true (meets n a) i (and_parts (eqb (meets n a) i) (takes right i a j) t).0

-- the old data and the new differ in a spot
module _ (D : Blocks) (i j x : ℕ) where
  differ_at : (i' j' : ℕ) → difference D (changed D i j x) i' j' ≡ spot i j (bit_xor (D i j) x) i' j'
  unfolding changed spot only
  differ_at i' j' = go (eqb i' i) (eqb j' j) refl refl
    where
      go : (s t : Bool) → eqb i' i ≡ s → eqb j' j ≡ t → bit_xor (D i' j') (cond (s && t) x (D i' j')) ≡ cond (s && t) (bit_xor (D i j) x) 0
      go true true e f = ap₂ (λ a b. bit_xor (D a b) x) (eqb-true i' i e) (eqb-true j' j f)
      go true false e f = xor_self (D i' j')
      go false t e f = xor_self (D i' j')

  in_spot : difference D (changed D i j x) ≡ spot i j (bit_xor (D i j) x)
  in_spot = fun_ext (λ i'. fun_ext (differ_at i'))

-- b from a and their difference
from_difference : (a b c : ℕ) → bit_xor a b ≡ c → b ≡ bit_xor a c
from_difference a b c e = sym (ap (λ t. bit_xor t b) (xor_self a)) ∙ xor_assoc a a b ∙ ap (bit_xor a) e

pub put_rule : PutRule
put_rule k right law D i j x jk =
    record {
      row = λ r. from_difference (horizontal k D r) (horizontal k (changed D i j x) r) (only (eqb r i) (bit_xor (D i j) x))
          (sym (horizontal_xor k right D (changed D i j x) r) ∙ ap (λ X. horizontal k X r) (in_spot D i j x)
          ∙ row_spot k right law i j (bit_xor (D i j) x) jk r);
      line = λ n. from_difference (butterfly k right D n) (butterfly k right (changed D i j x) n) (only (holds k right n i j) (bit_xor (D i j) x))
          (sym (butterfly_xor k right D (changed D i j x) n) ∙ ap (λ X. butterfly k right X n) (in_spot D i j x)
          ∙ line_spot k right law i j (bit_xor (D i j) x) jk n);
    }
