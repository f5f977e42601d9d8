-- A put writes its block, and adds what it changes to the parities: nothing else.
use Rattle.std.proofs.Common.{◌≡◌, ℕ, ◌+◌, ◌<◌, Bool, true, false, cond, not, ◌&&◌, ◌||◌, eqb, ◌⊎◌, List, length, get_or, sym, refl, ap, ◌∙◌, subst, ap₂, inl, inr, true≢false, arith, eqb-true}
use lib.Bits.{bit_xor}
use borrow.Author.Tests.{eq-true, ne_false}
use Rattle.std.proofs.lemmas.Bool.Decides.{nat_tests}
use Rattle.tray.specs.Meaning.{Meaning, stored}
use Rattle.code.specs.Code.{Rule, rows}
use Rattle.code.specs.Lines.{holds}
use Rattle.law.specs.Service.{Columns}
use Rattle.law.specs.Holding.{held, SameFrame, Calm}
use Rattle.law.specs.Hand.{AtHand}
use Rattle.law.specs.Calls.{writes, Put}
use Rattle.law.proofs.Hand.{which}
use Rattle.law.proofs.Writes.{writes_data, writes_sum, writes_line}
use Rattle.shelf.specs.Regaining.{BytesAdded}
use Rattle.shelf.specs.Parities.{AddedAt, parities_of}
use Rattle.shelf.proofs.Frames.{frame_twice, frame_written}

-- the tray with the block written, where its column is in service
module _ (out : Columns) (m m' m'' : Meaning) (j i : ℕ) (x : List ℕ) (calm : Calm m m') (written : m'' ≡ cond (out j) m' (stored m' j i x)) where
  by_case : {P : Type 0} → (out j ≡ true → m'' ≡ m' → P) → (out j ≡ false → m'' ≡ stored m' j i x → P) → P
  by_case {P} f g = go (out j) refl written
    where
      go : (b : Bool) → out j ≡ b → m'' ≡ cond b m' (stored m' j i x) → P
      go true o e = f o e
      go false o e = g o e

  pub written_frame : SameFrame m m''
  written_frame =
      by_case (λ _ e. subst (SameFrame m) (sym e) calm.frame) (λ _ e. frame_written m m' m'' j i x calm.frame e)

  -- it is there, and nothing else was written
  pub written_there : out j ≡ false → m''.block j i ≡ x
  written_there o =
      by_case (λ t _. absurd (true≢false (sym t ∙ o)))
      (λ _ e. ap (λ t. t.block j i) e ∙ ap₂ (λ s t. cond (s && t) x (m'.block j i)) (sym (eq-true j j refl)) (sym (eq-true i i refl)))

  pub written_else : (c r : ℕ) → (out j ≡ false → eqb c j && eqb r i ≡ false) → m''.block c r ≡ m.block c r
  written_else c r off =
      by_case (λ _ e. ap (λ t. t.block c r) e ∙ ap (λ f. f c r) calm.block)
      (λ o e. ap (λ t. t.block c r) e ∙ ap (λ s. cond s x (m'.block c r)) (off o) ∙ ap (λ f. f c r) calm.block)

-- ---- which places are written

module _ (k : ℕ) (right : Rule) (out : Columns) (j i : ℕ) (jk : j < k) where
  -- data columns hold no parity
  no_parity : (c r : ℕ) → c < k → parities_of k right out i j c r ≡ false
  no_parity c r l =
      ap₂ (λ s t. (not (out c) && (s && eqb i r)) || (not (out c) && (t && holds k right r i j)))
      (sym (ne_false k c (omega arith))) (sym (ne_false (k + 1) c (omega arith)))
      ∙ off (not (out c))
    where
      off : (b : Bool) → (b && false) || (b && false) ≡ false
      off true = refl
      off false = refl

  -- what column k and column k + 1 hold of them
  sums_are : out k ≡ false → (r : ℕ) → parities_of k right out i j k r ≡ eqb i r
  sums_are o r =
      ap (λ s. (not s && (eqb k k && eqb i r)) || (not s && (eqb (k + 1) k && holds k right r i j))) o
      ∙ ap₂ (λ s t. (s && eqb i r) || (t && holds k right r i j)) (sym (eq-true k k refl)) (sym (ne_false (k + 1) k (omega arith)))
      ∙ off (eqb i r)
    where
      off : (b : Bool) → b || false ≡ b
      off true = refl
      off false = refl

  lines_are : out (k + 1) ≡ false → (n : ℕ) → parities_of k right out i j (k + 1) n ≡ holds k right n i j
  lines_are o n =
      ap (λ s. (not s && (eqb k (k + 1) && eqb i n)) || (not s && (eqb (k + 1) (k + 1) && holds k right n i j))) o
      ∙ ap₂ (λ s t. (s && eqb i n) || (t && holds k right n i j)) (sym (ne_false k (k + 1) (omega arith))) (sym (eq-true (k + 1) (k + 1) refl))

  module _ (c r : ℕ) (cl : c < k + 2) (unwritten : writes k right out j i c r ≡ false) where
    not_its_place : out j ≡ false → eqb c j && eqb r i ≡ false
    not_its_place o = go (eqb c j) refl
      where
        go : (b : Bool) → eqb c j ≡ b → eqb c j && eqb r i ≡ false
        go true e = sym (writes_data k right out j i c r (omega (arith, eqb-true c j e)) (ap out (eqb-true c j e) ∙ o)) ∙ unwritten
        go false e = ap (λ s. s && eqb r i) e

    not_parity : parities_of k right out i j c r ≡ false
    not_parity = go (out c) refl (which k c cl)
      where
        go : (b : Bool) → out c ≡ b → (c < k) ⊎ ((c ≡ k) ⊎ (c ≡ k + 1)) → parities_of k right out i j c r ≡ false
        go true o w = ap (λ s. (not s && (eqb k c && eqb i r)) || (not s && (eqb (k + 1) c && holds k right r i j))) o
        go false o (inl l) = no_parity c r l
        go false o (inr (inl e)) =
            let o' : out k ≡ false = ap out (sym e) ∙ o in
            ap (λ d. parities_of k right out i j d r) e ∙ sums_are o' r ∙ turn i r ∙ sym (writes_sum k right out j i r o') ∙ ap (λ d. writes k right out j i d r) (sym e) ∙ unwritten
          where
            turn : (a b : ℕ) → eqb a b ≡ eqb b a
            turn a b = grind (arith, nat_tests)
        go false o (inr (inr e)) =
            let o' : out (k + 1) ≡ false = ap out (sym e) ∙ o in
            ap (λ d. parities_of k right out i j d r) e ∙ lines_are o' r ∙ sym (writes_line k right out j i r o') ∙ ap (λ d. writes k right out j i d r) (sym e) ∙ unwritten

module _ (k : ℕ) (right : Rule) (size : ℕ) (out : Columns) (m m' m'' m''' : Meaning) (j i : ℕ) (x v change : List ℕ) (jk : j < k) (il : i < rows k) (long : length x ≡ size)
    (hand : AtHand k right size out m i j v) (calm : Calm m m') (changed : BytesAdded size v (λ b. get_or x b 0) change)
    (written : m'' ≡ cond (out j) m' (stored m' j i x)) (added : AddedAt size m'' change (parities_of k right out i j) m''') where
  -- a parity with the change
  grown : (c r b : ℕ) → c < k + 2 → (c < k → ⊥) → b < size → parities_of k right out i j c r ≡ true → held m''' b r c ≡ bit_xor (held m b r c) (bit_xor (get_or v b 0) (get_or x b 0))
  grown c r b cl high bl p =
      added.plus c r b p bl
      ∙ ap₂ bit_xor
      (ap (λ l. get_or l b 0) (written_else out m m' m'' j i x calm written c r (λ _. ap (λ s. s && eqb r i) (sym (ne_false c j (λ e. high (omega arith)))))))
      (changed b bl)

  pub exchanged : Put k right size out m j i x m'''
  exchanged =
      record {
        column = jk;
        row = il;
        long = long;
        v = v;
        at_hand = hand;
        place = λ o. added.rest j i (no_parity k right out j i jk j i jk) ∙ written_there out m m' m'' j i x calm written o;
        sum = λ o b bl. grown k i b (omega arith) (λ l. omega arith) bl (sums_are k right out j i jk o i ∙ sym (eq-true i i refl));
        lines = λ o n nl h b bl. grown (k + 1) n b (omega arith) (λ l. omega arith) bl (lines_are k right out j i jk o n ∙ h);
        rest = λ c r cl rl w.
            added.rest c r (not_parity k right out j i jk c r cl w)
            ∙ written_else out m m' m'' j i x calm written c r (not_its_place k right out j i jk c r cl w);
        frame = frame_twice m m'' m''' (written_frame out m m' m'' j i x calm written) added.frame;
      }
