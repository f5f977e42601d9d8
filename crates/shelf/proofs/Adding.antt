-- What is added to the slots of rows and lines.
use Rattle.std.proofs.Common.{◌≡◌, ℕ, ◌+◌, ◌-◌, ◌*◌, ◌<◌, ◌≤◌, true, false, cond, ◌&&◌, eqb, ltb, leb, List, length, get_or, sym, ap, ◌∙◌, subst, mul-le-mul_right, arith}
use native.Mathlib.Decide.{ℕ_discrete}
use lib.Bits.{bit_xor, xor_assoc, xor_zero_r}
use borrow.Author.Tests.{eq-true, ne_false}
use Rattle.std.proofs.lemmas.Bool.Decides.{nat_tests}
use Rattle.code.specs.Numbers.{only}
use Rattle.code.specs.Code.{rows}
use Rattle.code.proofs.Xor.{only_false}
use Rattle.shelf.specs.Slots.{slot, row_slot, line_slot, Room, SlotAdded, Filled, Plus, nothing}

-- a slot lies in the work space
pub has_slot : (k size : ℕ) (work : List ℕ) → Room k size work → (s : ℕ) → s < rows k + rows k → (s + 1) * size ≤ length work
has_slot k size work room s l = omega (arith, mul-le-mul_right {m = s + 1} {n = 2 * rows k} size (omega arith), room.large)

-- the same for a block that is as long as one
pub has_slot_for : (k size len : ℕ) (work : List ℕ) → Room k size work → len ≡ size → (s : ℕ) → s < rows k + rows k → (s + 1) * len ≤ length work
has_slot_for k size len work room e s l = subst (λ x. (s + 1) * x ≤ length work) (sym e) (has_slot k size work room s l)

pub filled_same : (size : ℕ) (was : List ℕ) (first n : ℕ) (f g : ℕ → ℕ → ℕ) (after : List ℕ) → ((t b : ℕ) → f t b ≡ g t b) → Filled size was first n f after → Filled size was first n g after
filled_same size was first n f g after e h t b l = h t b l ∙ ap (λ x. cond (leb first t && ltb t (first + n)) x (slot size was t b)) (e (t - first) b)

-- the slots of rows and of lines, filled one part after the other
module _ (size r : ℕ) (was mid after : List ℕ) (f g : ℕ → ℕ → ℕ) (rows-filled : Filled size was 0 r f mid) (lines-filled : Filled size mid r r g after) where
  pub row_filled : (b i : ℕ) → b < size → i < r → slot size after i b ≡ f i b
  row_filled b i bl l =
      lines-filled i b bl ∙ ap (λ x. cond x (g (i - r) b) (slot size mid i b)) (sym (not_yet r i l))
      ∙ rows-filled i b bl ∙ ap (λ x. cond x (f (i - 0) b) (slot size was i b)) (sym (there r i l)) ∙ ap (λ x. f x b) (same i)
    where
      not_yet : (r i : ℕ) → i < r → false ≡ leb r i && ltb i (r + r)
      not_yet r i l = grind (arith, nat_tests)

      there : (r i : ℕ) → i < r → true ≡ leb 0 i && ltb i (0 + r)
      there r i l = grind (arith, nat_tests)

      same : (i : ℕ) → i - 0 ≡ i
      same i = omega arith

  pub line_filled : (b n : ℕ) → b < size → n < r → slot size after (r + n) b ≡ g n b
  line_filled b n bl l = lines-filled (r + n) b bl ∙ ap (λ x. cond x (g (r + n - r) b) (slot size mid (r + n) b)) (sym (there r n l)) ∙ ap (λ x. g x b) (same r n)
    where
      there : (r n : ℕ) → n < r → true ≡ leb r (r + n) && ltb (r + n) (r + r)
      there r n l = grind (arith, nat_tests)

      same : (r n : ℕ) → r + n - r ≡ n
      same r n = omega arith

-- slots behind the rows are told apart as their lines are
shifted : (r a b : ℕ) → eqb (r + a) (r + b) ≡ eqb a b
shifted r a b =
    elim (ℕ_discrete a b) [
      | yes e ↦ sym (eq-true (r + a) (r + b) (omega arith)) ∙ eq-true a b e
      | no n ↦ sym (ne_false (r + a) (r + b) (omega arith)) ∙ ne_false a b n
    ]

module _ (k size : ℕ) (was : List ℕ) where
  pub plus_none : Plus k size was nothing nothing was
  plus_none = record { row = λ b r _ _. sym (xor_zero_r (row_slot size was b r)); line = λ b n _ _. sym (xor_zero_r (line_slot k size was b n)) }

  pub plus_same : (g f g' f' : ℕ → ℕ → ℕ) (after : List ℕ) → ((b r : ℕ) → b < size → r < rows k → g b r ≡ g' b r) → ((b n : ℕ) → b < size → n < rows k → f b n ≡ f' b n)
      → Plus k size was g f after → Plus k size was g' f' after
  plus_same g f g' f' after eg ef p =
      record {
        row = λ b r bl rl. p.row b r bl rl ∙ ap (bit_xor (row_slot size was b r)) (eg b r bl rl);
        line = λ b n bl nl. p.line b n bl nl ∙ ap (bit_xor (line_slot k size was b n)) (ef b n bl nl);
      }

  pub plus_plus : (g f g' f' : ℕ → ℕ → ℕ) (mid after : List ℕ) → Plus k size was g f mid → Plus k size mid g' f' after
      → Plus k size was (λ b r. bit_xor (g b r) (g' b r)) (λ b n. bit_xor (f b n) (f' b n)) after
  plus_plus g f g' f' mid after p q =
      record {
        row = λ b r bl rl. q.row b r bl rl ∙ ap (λ x. bit_xor x (g' b r)) (p.row b r bl rl) ∙ xor_assoc (row_slot size was b r) (g b r) (g' b r);
        line = λ b n bl nl. q.line b n bl nl ∙ ap (λ x. bit_xor x (f' b n)) (p.line b n bl nl) ∙ xor_assoc (line_slot k size was b n) (f b n) (f' b n);
      }

  -- a block was added to one row's slot, or to one line's
  module _ (x after : List ℕ) where
    pub plus_row : (i : ℕ) → i < rows k → SlotAdded size was i x after → Plus k size was (λ b r. only (eqb r i) (get_or x b 0)) nothing after
    plus_row i l h =
        record {
          row = λ b r bl rl. h r b bl;
          line = λ b n bl nl.
              h (rows k + n) b bl
              ∙ ap (bit_xor (line_slot k size was b n)) (only_false (eqb (rows k + n) i) (get_or x b 0) (sym (ne_false (rows k + n) i (omega arith))));
        }

    pub plus_line : (l : ℕ) → SlotAdded size was (rows k + l) x after → Plus k size was nothing (λ b n. only (eqb n l) (get_or x b 0)) after
    plus_line l h =
        record {
          row = λ b r bl rl.
              h r b bl ∙ ap (bit_xor (row_slot size was b r)) (only_false (eqb r (rows k + l)) (get_or x b 0) (sym (ne_false r (rows k + l) (omega arith))));
          line = λ b n bl nl. h (rows k + n) b bl ∙ ap (λ t. bit_xor (line_slot k size was b n) (only t (get_or x b 0))) (shifted (rows k) n l);
        }
