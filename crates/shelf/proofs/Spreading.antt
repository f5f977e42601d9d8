-- Blocks that stand in slots are added to the lines that hold their places.
use Rattle.std.proofs.Common.{◌≡◌, ℕ, ◌+◌, ◌<◌, Bool, true, false, cond, ◌&&◌, eqb, List, get_or, sym, refl, ap, ◌∙◌, subst}
use lib.Bits.{bit_xor, xor_zero_r}
use borrow.Author.Tests.{eq-true, lt-true}
use Rattle.code.specs.Numbers.{only}
use Rattle.code.specs.Code.{Rule, spot, rows, meets, butterfly}
use Rattle.code.specs.Neighbours.{Tournament}
use Rattle.code.proofs.Linear.{difference, butterfly_same, butterfly_xor}
use Rattle.shelf.specs.Slots.{slot, row_slot, line_slot, IsSlot, SlotAdded, Plus, nothing, one, holds_but, to_lines}
use Rattle.shelf.specs.Reading.{part}
use Rattle.shelf.specs.Solving.{from_rows, Settled}
use Rattle.shelf.proofs.Adding.{plus_none, plus_same, plus_plus, plus_row}
use Rattle.shelf.proofs.Holding.{lines_of_one}
use Rattle.shelf.proofs.Gathering.{part_none, part_more, line_none}

-- what the row slots hold was added, as blocks of column j, to the lines that hold them
abbrev pub Spread : ℕ → Rule → ℕ → List ℕ → ℕ → List ℕ → Type 0
Spread k right size was j after = Plus k size was nothing (λ b. butterfly k right (from_rows size was j b)) after

-- ---- one row after the other

module _ (k : ℕ) (right : Rule) (law : Tournament k right) (size : ℕ) (was : List ℕ) (j : ℕ) (jk : j < k) where
  -- the lines of the rows below n
  abbrev pub spread_to : ℕ → ℕ → ℕ → ℕ
  spread_to n b = butterfly k right (part j n (from_rows size was j b))

  pub spread_none : Plus k size was nothing (spread_to 0) was
  spread_none =
      plus_same k size was nothing nothing nothing (spread_to 0) was (λ _ _ _ _. refl)
      (λ b n _ _. sym (line_none k right (part j 0 (from_rows size was j b)) (λ i c. part_none j i c (from_rows size was j b)) n)) (plus_none k size was)

  pub spread_more : (n len len' : ℕ) (block mid after : List ℕ) → n < rows k → len ≡ size → len' ≡ size → Plus k size was nothing (spread_to n) mid → IsSlot len' mid n block
      → Plus k len mid nothing (to_lines k right n j k block) after → Plus k size was nothing (spread_to (n + 1)) after
  unfolding only
  spread_more n len len' block mid after l e e' p s q =
      plus_same k size was (λ b r. 0) (λ b m. bit_xor (spread_to n b m) (to_lines k right n j k block b m)) nothing (spread_to (n + 1)) after (λ _ _ _ _. refl)
      (λ b m bl ml.
      ap (bit_xor (spread_to n b m)) (lines_of_one k right law n j l jk block b m ml)
      ∙ sym (butterfly_xor k right (part j n (from_rows size was j b)) (one n j block b) m)
      ∙ butterfly_same k right (difference (part j n (from_rows size was j b)) (one n j block b)) (part j (n + 1) (from_rows size was j b))
      (λ i c _ _. ap (λ x. bit_xor (part j n (from_rows size was j b) i c) (spot n j x i c)) (here b bl) ∙ part_more j n i c (from_rows size was j b)) m ml)
      (plus_plus k size was nothing (spread_to n) nothing (to_lines k right n j k block) mid after p (subst (λ x. Plus k x mid nothing (to_lines k right n j k block) after) e q))
    where
      here : (b : ℕ) → b < size → get_or block b 0 ≡ cond (eqb j j) (row_slot size was b n) 0
      here b bl = subst (λ x. IsSlot x mid n block) e' s b bl ∙ p.row b n bl l ∙ xor_zero_r (row_slot size was b n) ∙ ap (λ x. cond x (row_slot size was b n) 0) (eq-true j j refl)

  pub spread_all : (after : List ℕ) → Plus k size was nothing (spread_to (rows k)) after → Spread k right size was j after
  unfolding only
  spread_all after p =
      plus_same k size was nothing (spread_to (rows k)) nothing (λ b. butterfly k right (from_rows size was j b)) after (λ _ _ _ _. refl)
      (λ b n _ l. butterfly_same k right (part j (rows k) (from_rows size was j b)) (from_rows size was j b)
      (λ i c il _. ap (λ x. cond (eqb c j && x) (cond (eqb c j) (row_slot size was b i) 0) 0) (sym (lt-true i (rows k) il)) ∙ go (eqb c j) (row_slot size was b i)) n l) p
    where
      go : (t : Bool) (x : ℕ) → cond (t && true) (cond t x 0) 0 ≡ cond t x 0
      go true x = refl
      go false x = refl

-- ---- a row is settled

pub settled : (k : ℕ) (right : Rule) (size p q v : ℕ) (was block w₁ w₂ w₃ : List ℕ) (len s : ℕ) → v < rows k → len ≡ size → s ≡ rows k + meets v p
    → IsSlot size was s block → SlotAdded len was v block w₁ → Plus k len w₁ nothing (to_lines k right v p p block) w₂ → Plus k len w₂ nothing (to_lines k right v q k block) w₃
    → Settled k right size p q v was w₃
unfolding to_lines
settled k right size p q v was block w₁ w₂ w₃ len s l e es is a f g =
    subst (λ x. Plus k x was (λ b r. only (eqb r v) (line_slot k size was b (meets v p)))
    (λ b n. bit_xor (only (holds_but k right v p p n) (line_slot k size was b (meets v p))) (only (holds_but k right v q k n) (line_slot k size was b (meets v p)))) w₃) e
    (plus_same k len was _ _ _ _ w₃
    (λ b r bl _. xor_zero_r (bit_xor (only (eqb r v) (get_or block b 0)) 0) ∙ xor_zero_r (only (eqb r v) (get_or block b 0)) ∙ ap (only (eqb r v)) (here b (subst (λ x. b < x) e bl)))
    (λ b n bl _. ap (λ x. bit_xor (only (holds_but k right v p p n) x) (only (holds_but k right v q k n) x)) (here b (subst (λ x. b < x) e bl)))
    (plus_plus k len was _ _ nothing (to_lines k right v q k block) w₂ w₃
    (plus_plus k len was (λ b r. only (eqb r v) (get_or block b 0)) nothing nothing (to_lines k right v p p block) w₁ w₂ (plus_row k len was block w₁ v l a) f) g))
  where
    here : (b : ℕ) → b < size → get_or block b 0 ≡ line_slot k size was b (meets v p)
    here b bl = is b bl ∙ ap (λ x. slot size was x b) es
