-- Slots do not overlap.
use Rattle.std.proofs.Common.{◌≡◌, ℕ, ◌+◌, ◌-◌, ◌*◌, ◌<◌, ◌≤◌, Bool, true, false, cond, ◌&&◌, ltb, leb, ◌≢◌, ◌⊎◌, List, length, get_or, sym, refl, ap, ◌∙◌, ap₂, inl, inr, mul-le-mul_right, add-mul, arith}
use native.Mathlib.Decide.{ℕ_discrete, dec_lt}
use lib.Bits.{bit_xor, xor_zero_r}
use borrow.Rule.Slice.PartMut.{put_mid}
use Rattle.std.proofs.lemmas.Bool.Decides.{nat_tests}
use Rattle.std.proofs.lemmas.List.{places}
use borrow.Author.Tests.{lt-true, le-false, le-true, lt-false, eq-true, ne_false}
use Rattle.code.specs.Numbers.{only}
use Rattle.shelf.specs.Slots.{slot, AddedUpTo, SlotAdded, SlotSet, Filled}

-- a place of slot t lies in the bytes of slot s just where the slots are the same
module _ (size s t b : ℕ) (bl : b < size) where
  within : t ≡ s → (leb (s * size) (t * size + b) && ltb (t * size + b) (s * size + size)) ≡ true
  within e =
      ap (λ u. leb (s * size) (u * size + b) && ltb (u * size + b) (s * size + size)) e
      ∙ ap₂ (λ x y. x && y) (sym (le-true (s * size) (s * size + b) (omega arith))) (sym (lt-true (s * size + b) (s * size + size) (omega arith)))

  off : (x y : Bool) → (x ≡ false) ⊎ (y ≡ false) → x && y ≡ false
  off false y h = refl
  off true false h = refl
  off true true (inl e) = e
  off true true (inr e) = e

  without : t ≢ s → (leb (s * size) (t * size + b) && ltb (t * size + b) (s * size + size)) ≡ false
  without n =
      off (leb (s * size) (t * size + b)) (ltb (t * size + b) (s * size + size))
      (elim (dec_lt t s) [
        | yes l ↦ inl (sym (lt-false (s * size) (t * size + b) (omega (arith, mul-le-mul_right {m = t + 1} {n = s} size (omega arith), add-mul t 1 size))))
        | no h ↦ inr (sym (le-false (t * size + b) (s * size + size) (omega (arith, mul-le-mul_right {m = s + 1} {n = t} size (omega arith), add-mul s 1 size))))
      ])

-- where a place of the slot lies in it
there : (size s t b : ℕ) → t ≡ s → t * size + b - s * size ≡ b
there size s t b e = ap (λ u. u * size + b - s * size) e ∙ back (s * size) b
  where
    back : (x b : ℕ) → x + b - x ≡ b
    back x b = omega arith

pub slot_added : (size : ℕ) (was : List ℕ) (s : ℕ) (block after : List ℕ) → AddedUpTo was (s * size) block size after → SlotAdded size was s block after
unfolding slot only
slot_added size was s block after h t b bl =
    h (t * size + b)
    ∙ elim (ℕ_discrete t s) [
      | yes e ↦
          ap (λ x. cond x (bit_xor (get_or was (t * size + b) 0) (get_or block (t * size + b - s * size) 0)) (get_or was (t * size + b) 0)) (within size s t b bl e)
          ∙ ap₂ (λ x y. bit_xor (get_or was (t * size + b) 0) (cond x (get_or block y 0) 0)) (eq-true t s e) (there size s t b e)
      | no n ↦
          ap (λ x. cond x (bit_xor (get_or was (t * size + b) 0) (get_or block (t * size + b - s * size) 0)) (get_or was (t * size + b) 0)) (without size s t b bl n)
          ∙ sym (xor_zero_r (get_or was (t * size + b) 0))
          ∙ ap (λ x. bit_xor (get_or was (t * size + b) 0) (cond x (get_or block b 0) 0)) (ne_false t s n)
    ]

-- a block written over the bytes of a slot
over : (a n : ℕ) (xs ys : List ℕ) → a + n ≤ length xs → length ys ≡ n
    → (k : ℕ) → get_or (put_mid a (a + n - a) xs ys) k 0 ≡ cond (leb a k && ltb k (a + n)) (get_or ys (k - a) 0) (get_or xs k 0)
over a n xs ys l e k = grind (arith, nat_tests, places)

-- a place of slot t lies behind the start of slot s, or before it, just as the slots do
module _ (size t b s : ℕ) (bl : b < size) where
  from : leb (s * size) (t * size + b) ≡ leb s t
  from =
      elim (dec_lt t s) [
        | yes l ↦ sym (lt-false (s * size) (t * size + b) (omega (arith, mul-le-mul_right {m = t + 1} {n = s} size (omega arith), add-mul t 1 size))) ∙ lt-false s t l
        | no h ↦ sym (le-true (s * size) (t * size + b) (omega (arith, mul-le-mul_right {m = s} {n = t} size (omega arith)))) ∙ le-true s t (omega arith)
      ]

  before : ltb (t * size + b) (s * size) ≡ ltb t s
  before =
      elim (dec_lt t s) [
        | yes l ↦ sym (lt-true (t * size + b) (s * size) (omega (arith, mul-le-mul_right {m = t + 1} {n = s} size (omega arith), add-mul t 1 size))) ∙ lt-true t s l
        | no h ↦ sym (le-false (t * size + b) (s * size) (omega (arith, mul-le-mul_right {m = s} {n = t} size (omega arith)))) ∙ le-false t s (omega arith)
      ]

-- zeros written over n slots
pub slots_zeroed : (size : ℕ) (was : List ℕ) (first n : ℕ) (zeros : List ℕ) → (first + n) * size ≤ length was → length zeros ≡ n * size
    → ((k : ℕ) → get_or zeros k 0 ≡ 0) → Filled size was first n (λ _ _. 0) (put_mid (first * size) (first * size + n * size - first * size) was zeros)
unfolding slot
slots_zeroed size was first n zeros l len zero t b bl =
    over (first * size) (n * size) was zeros (omega (arith, add-mul first n size)) len (t * size + b)
    ∙ ap (λ x. cond (leb (first * size) (t * size + b) && ltb (t * size + b) (first * size + n * size)) x (get_or was (t * size + b) 0)) (zero (t * size + b - first * size))
    ∙ ap (λ e. cond (leb (first * size) (t * size + b) && ltb (t * size + b) e) 0 (get_or was (t * size + b) 0)) (sym (add-mul first n size))
    ∙ ap₂ (λ x y. cond (x && y) 0 (get_or was (t * size + b) 0)) (from size t b first bl) (before size t b (first + n) bl)

pub slot_put : (size : ℕ) (was : List ℕ) (s : ℕ) (block : List ℕ) → (s + 1) * size ≤ length was → length block ≡ size
    → SlotSet size was s (λ b. get_or block b 0) (put_mid (s * size) (s * size + size - s * size) was block)
unfolding slot
slot_put size was s block l len t b bl =
    over (s * size) size was block (omega (arith, add-mul s 1 size)) len (t * size + b)
    ∙ elim (ℕ_discrete t s) [
      | yes e ↦
          ap₂ (λ x y. cond x (get_or block y 0) (get_or was (t * size + b) 0)) (within size s t b bl e ∙ eq-true t s e) (there size s t b e)
      | no n ↦ ap (λ x. cond x (get_or block (t * size + b - s * size) 0) (get_or was (t * size + b) 0)) (without size s t b bl n) ∙ ap (λ x. cond x (get_or block b 0) (get_or was (t * size + b) 0)) (ne_false t s n)
    ]
