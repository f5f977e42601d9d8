-- The data at hand, by the columns that are out.
use Rattle.std.proofs.Common.{◌≡◌, ℕ, ◌+◌, ◌<◌, Bool, true, false, ◌||◌, eqb, ◌≢◌, List, length, sym, refl, ap, ◌∙◌, true≢false, arith, ext_get_or, eqb-true}
use borrow.Author.Tests.{eqb-false}
use Rattle.std.proofs.lemmas.Bool.Decides.{nat_tests}
use Rattle.tray.specs.Meaning.{Meaning}
use Rattle.code.specs.Code.{Rule}
use Rattle.code.specs.Neighbours.{Tournament}
use Rattle.code.specs.Laws.{lane}
use Rattle.code.proofs.Linear.{value_data}
use Rattle.law.specs.Holding.{Calm}
use Rattle.law.specs.Hand.{AtHand}
use Rattle.law.proofs.ForCode.{hand_solved}
use Rattle.law.proofs.Pinned.{some_blocks}
use Rattle.shelf.specs.declared.roster.missing.Missing.{Missing}
use Rattle.shelf.specs.declared.roster.missing.Missing.TheVariants.{Nothing, One, Two}
use Rattle.shelf.specs.Missing.{is_out, is_full, are_columns}
use Rattle.shelf.specs.Slots.{slot, IsSlot}
use Rattle.shelf.specs.Reading.{after_reads}
use Rattle.shelf.specs.Recovering.{is_sole_data, slot_for, Found}
use Rattle.shelf.specs.Hands.{Reach}

-- reads change nothing but tallies
pub calm_reads : (m m' : Meaning) (f : ℕ → ℕ) → m' ≡ after_reads m f → Calm m m'
calm_reads m m' f e =
    record {
      frame = record { shape = record { wide = ap (λ t. t.columns) e; tall = ap (λ t. t.rows) e; deep = ap (λ t. t.size) e }; answers = ap (λ t. t.answers) e };
      block = ap (λ t. t.block) e;
    }

-- ---- the column is out with another one

pub not_sole : (k : ℕ) (out : Missing) → is_full out ≡ true → is_sole_data k out ≡ false
not_sole k Nothing f = refl
not_sole k (One a) f = absurd (true≢false (sym f))
not_sole k (Two a b) f = refl

-- the other column, and no third one is out
another : (k : ℕ) (out : Missing) (j : ℕ) → are_columns k out ≡ true → is_out out j ≡ true → is_full out ≡ true
    → (q : ℕ) × (q < k + 2) × (j ≢ q) × (is_out out q ≡ true) × ((c : ℕ) → is_out out c ≡ false → (c ≢ j) × (c ≢ q))
another k Nothing j w o f = absurd (true≢false (sym f))
another k (One a) j w o f = absurd (true≢false (sym f))
another k (Two a b) j w o f = go (eqb a j) refl o
  where
    away : (a b c : ℕ) → eqb a c || eqb b c ≡ false → (c ≢ a) × (c ≢ b)
    away a b c e = ((λ q. eqb-false a c (first (eqb a c) (eqb b c) e) (sym q)), (λ q. eqb-false b c (second (eqb a c) (eqb b c) e) (sym q)))
      where
        first : (x y : Bool) → x || y ≡ false → x ≡ false
        first false y e = refl
        first true y e = e

        second : (x y : Bool) → x || y ≡ false → y ≡ false
        second false y e = e
        second true y e = absurd (true≢false e)

    go : (s : Bool) → eqb a j ≡ s → s || eqb b j ≡ true
        → (q : ℕ) × (q < k + 2) × (j ≢ q) × (eqb a q || eqb b q ≡ true) × ((c : ℕ) → eqb a c || eqb b c ≡ false → (c ≢ j) × (c ≢ q))
    go true e _ = let q = eqb-true a j e in (b, grind (arith, nat_tests), grind (arith, nat_tests), grind (arith, nat_tests), λ c n. ((λ z. (away a b c n).0 (z ∙ sym q)), (away a b c n).1))
    go false e t = let q = eqb-true b j t in (a, grind (arith, nat_tests), grind (arith, nat_tests), grind (arith, nat_tests), λ c n. ((λ z. (away a b c n).1 (z ∙ sym q)), (away a b c n).0))

module _ (k : ℕ) (right : Rule) (law : Tournament k right) (size : ℕ) (out : Missing) (m : Meaning) (j i : ℕ) (was : List ℕ) (h : Reach k size out m j i was)
    (o : is_out out j ≡ true) (f : is_full out ≡ true) where
  pub solved_hand : (by s : ℕ) (work block : List ℕ) → Found k right size (is_out out) m by work → s ≡ slot_for k by j i → length block ≡ size → IsSlot size work s block
      → AtHand k right size (is_out out) m i j block
  solved_hand by s work block found e long copied =
      let q = another k out j h.columns o f in
      let D = some_blocks k right law size (is_out out) m j q.0 (omega (arith, h.column)) q.1 q.2 (λ c _ away. q.4 c away) in
      hand_solved k right size (is_out out) m i j block o q.0 q.1 (λ y. q.2 (sym y)) q.3 D.0 D.1 D.2
      (ext_get_or 0 block (D.0 i j) (long ∙ sym (D.1 i j h.row h.column))
      (λ b l.
      copied b (omega arith) ∙ ap (λ t. slot size work t b) e
      ∙ found D.0 D.2 j i b (omega (arith, h.column)) o h.row (omega arith)
      ∙ value_data k right (lane D.0 b) j i h.column))
