-- One row of a data column that alone is out: the tray, the lines and the row's sum.
use Rattle.std.proofs.Common.{◌≡◌, ℕ, ◌+◌, ◌<◌, Bool, true, false, cond, not, ◌&&◌, eqb, ltb, ◌≢◌, List, get_or, sym, refl, ap, ◌∙◌, ap₂, subst₂, arith, eqb-true}
use lib.Bits.{bit_xor, xor_assoc, xor_zero_r}
use borrow.Author.Tests.{eq-true, ne_false, lt-true, le-false, eqb-false}
use Rattle.std.proofs.lemmas.Bool.Decides.{nat_tests}
use Rattle.tray.specs.Meaning.{Meaning, Wraps, tallied}
use Rattle.code.specs.Numbers.{only, xorsum}
use Rattle.code.specs.Code.{Blocks, Rule, spot, rows, meets, butterfly, gives}
use Rattle.code.specs.Neighbours.{Tournament}
use Rattle.code.specs.Lines.{holds}
use Rattle.code.proofs.Xor.{only_xor, only_zero, only_true, only_false, sum_next, sum_none}
use Rattle.code.proofs.Linear.{difference, butterfly_same, butterfly_xor}
use Rattle.code.proofs.Lost.{beside_none, gives_none}
use Rattle.code.proofs.Put.{line_spot}
use Rattle.law.specs.Holding.{held}
use Rattle.law.specs.Hand.{others, by_row, with_row}
use Rattle.shelf.specs.Blocks.{Ready}
use Rattle.shelf.specs.Slots.{slot, row_slot, line_slot, SlotAdded, SlotSet, IsSlot, Plus, nothing, holds_but, to_lines}
use Rattle.shelf.specs.Reading.{after_reads, times}
use Rattle.shelf.specs.Regaining.{Alone, once_below, row_of, below, lines_but, unless, RowFound}
use Rattle.shelf.proofs.Adding.{plus_none, plus_same, plus_plus, plus_row}
use Rattle.shelf.proofs.Gathering.{reads_none, reads_same, reads_reads, column_none, column_more}

-- ---- the tray

-- a block of another column may be read
pub may_read : (k size : ℕ) (m : Meaning) (j : ℕ) → Alone k size m j → (c i n : ℕ) → c < k + 2 → c ≢ j → i < rows k → n ≡ size → Ready m c i n
may_read k size m j a c i n cl ne il e =
    record {
      column = omega (arith, a.heard.shape.wide);
      row = omega (arith, a.heard.shape.tall);
      long = e ∙ sym a.heard.shape.deep;
      answers = a.heard.answers c cl (sym (ne_false j c (λ h. ne (sym h))));
    }

-- one read
pub read_one : (m : Meaning) (c : ℕ) → Wraps m → tallied m c ≡ after_reads m (times c 1)
read_one m c w = column_more m m c 0 (column_none m c w)

-- reads after reads
pub reads_after : (m m₁ m₂ : Meaning) (f g h : ℕ → ℕ) → m₁ ≡ after_reads m f → m₂ ≡ after_reads m₁ g → ((c : ℕ) → f c + g c ≡ h c) → m₂ ≡ after_reads m h
reads_after m m₁ m₂ f g h e e' s = e' ∙ ap (λ x. after_reads x g) e ∙ reads_reads m f g ∙ reads_same m (λ c. f c + g c) h s

pub once_none : (m : Meaning) (j : ℕ) → Wraps m → m ≡ after_reads m (once_below j 0)
once_none m j w = reads_none m w ∙ reads_same m (λ _. 0) (once_below j 0) (λ c. none c)
  where
    none : (c : ℕ) → 0 ≡ once_below j 0 c
    none c = grind (arith, nat_tests)

pub once_more : (j t c : ℕ) → once_below j t c + times t (cond (eqb t j) 0 1) c ≡ once_below j (t + 1) c
once_more j t c = grind (arith, nat_tests)

-- ---- lines

module _ (k : ℕ) (right : Rule) (i j : ℕ) where
  -- a block goes to the lines that hold its place, but for the one through (i, j)
  pub to_lines_but : Tournament k right → (c : ℕ) → c < k → (x : List ℕ) (b n : ℕ) → to_lines k right i c j x b n ≡ lines_but k right i j (spot i c (get_or x b 0)) n
  unfolding to_lines holds_but lines_but only
  to_lines_but law c ck x b n =
      both (holds k right n i c) (not (eqb n (meets i j))) (get_or x b 0)
      ∙ ap (only (not (eqb n (meets i j)))) (sym (line_spot k right law i c (get_or x b 0) ck n))
    where
      both : (s t : Bool) (y : ℕ) → only (s && t) y ≡ only t (only s y)
      both true true y = refl
      both true false y = refl
      both false true y = refl
      both false false y = refl

  pub but_none : (E : Blocks) → ((i' c : ℕ) → E i' c ≡ 0) → (n : ℕ) → lines_but k right i j E n ≡ 0
  unfolding lines_but butterfly
  but_none E z n =
      only_zero (not (eqb n (meets i j))) (butterfly k right E n)
      (λ _. sum_none k (λ c. gives k right E (meets n c) c) (λ c _. gives_none k right E (meets n c) c (z (meets n c) c) (λ _. beside_none k right E (meets n c) c (λ c' _ _. z (meets n c) c'))))

  pub but_more : (E F G : Blocks) → ((i' c : ℕ) → i' < rows k → c < k → bit_xor (E i' c) (F i' c) ≡ G i' c)
      → (n : ℕ) → n < rows k → bit_xor (lines_but k right i j E n) (lines_but k right i j F n) ≡ lines_but k right i j G n
  unfolding lines_but
  but_more E F G h n l =
      sym (only_xor (not (eqb n (meets i j))) (butterfly k right E n) (butterfly k right F n))
      ∙ ap (only (not (eqb n (meets i j)))) (sym (butterfly_xor k right E F n) ∙ butterfly_same k right (difference E F) G h n l)

-- ---- the columns one by one

module _ (k : ℕ) (right : Rule) (size i j t : ℕ) (m : Meaning) (was : List ℕ) where
  -- of column j nothing is added
  pub own_none : t ≡ j → Plus k size was (λ b r. only (eqb r i) (unless m i j t b)) (λ b. lines_but k right i j (spot i t (unless m i j t b))) was
  unfolding spot
  own_none e =
      plus_same k size was nothing nothing _ _ was (λ b r _ _. sym (only_zero (eqb r i) (unless m i j t b) (λ _. none b)))
      (λ b n _ _. sym (but_none k right i j (spot i t (unless m i j t b)) (λ i' c. only_zero _ (unless m i j t b) (λ _. none b)) n)) (plus_none k size was)
    where
      none : (b : ℕ) → unless m i j t b ≡ 0
      none b = only_false (not (eqb t j)) (held m b i t) (ap not (sym (eq-true t j e)))

  -- a block x of another column is added to its row (mid), and then to the lines but for the one through (i, j)
  pub other_added : Tournament k right → i < rows k → t < k → t ≢ j → (mid after x : List ℕ) → x ≡ m.block t i → SlotAdded size was i x mid → Plus k size mid nothing (to_lines k right i t j x) after
      → Plus k size was (λ b r. only (eqb r i) (unless m i j t b)) (λ b. lines_but k right i j (spot i t (unless m i j t b))) after
  other_added law il tk ne mid after x e added passed =
      plus_same k size was _ _ _ _ after (λ b r _ _. xor_zero_r (only (eqb r i) (get_or x b 0)) ∙ ap (only (eqb r i)) (known b))
      (λ b n _ _. to_lines_but k right i j law t tk x b n ∙ ap (λ y. lines_but k right i j (spot i t y) n) (known b))
      (plus_plus k size was _ _ _ _ mid after (plus_row k size was x mid i il added) passed)
    where
      known : (b : ℕ) → get_or x b 0 ≡ unless m i j t b
      known b = ap (λ y. get_or y b 0) e ∙ sym (only_true (not (eqb t j)) (held m b i t) (ap not (sym (ne_false t j ne))))

pub others_next : (j t : ℕ) (f : ℕ → ℕ) → bit_xor (others t j f) (only (not (eqb t j)) (f t)) ≡ others (t + 1) j f
unfolding others
others_next j t f = sym (sum_next t (λ c. only (not (eqb c j)) (f c)))

module _ (i j : ℕ) (M : Blocks) where
  pub row_none : (i' c : ℕ) → row_of i (below j 0 M) i' c ≡ 0
  unfolding row_of below only
  row_none i' c = grind (arith, nat_tests)

  pub row_more : (t i' c : ℕ) → bit_xor (row_of i (below j t M) i' c) (spot i t (only (not (eqb t j)) (M i t)) i' c) ≡ row_of i (below j (t + 1) M) i' c
  unfolding row_of below only spot
  row_more t i' c = go (eqb i' i) refl (eqb c t) refl
    where
      same_below : c ≢ t → ltb c t ≡ ltb c (t + 1)
      same_below ne = grind (arith, nat_tests)

      go : (s : Bool) → eqb i' i ≡ s → (u : Bool) → eqb c t ≡ u
          → bit_xor (cond s (cond (ltb c t && not (eqb c j)) (M i' c) 0) 0) (cond (s && u) (cond (not (eqb t j)) (M i t) 0) 0) ≡ cond s (cond (ltb c (t + 1) && not (eqb c j)) (M i' c) 0) 0
      go false e u f = refl
      go true e true f =
          ap (λ b. bit_xor (cond (b && not (eqb c j)) (M i' c) 0) (cond (not (eqb t j)) (M i t) 0)) (sym (le-false c t (omega (arith, eqb-true c t f))))
          ∙ ap₂ (λ r y. cond (not (eqb y j)) (M r y) 0) (sym (eqb-true i' i e)) (sym (eqb-true c t f))
          ∙ ap (λ b. cond (b && not (eqb c j)) (M i' c) 0) (lt-true c (t + 1) (omega (arith, eqb-true c t f)))
      go true e false f =
          xor_zero_r (cond (ltb c t && not (eqb c j)) (M i' c) 0) ∙ ap (λ b. cond (b && not (eqb c j)) (M i' c) 0) (same_below (eqb-false c t f))

  -- all columns: the others, and what they and the row's sum say of column j
  pub row_all : (k : ℕ) → (i' c : ℕ) → c < k → bit_xor (row_of i (below j k M) i' c) (spot i j (by_row k M j i) i' c) ≡ row_of i (with_row k M j) i' c
  unfolding row_of below only spot with_row
  row_all k i' c ck = go (eqb i' i) refl (eqb c j) refl
    where
      go : (s : Bool) → eqb i' i ≡ s → (u : Bool) → eqb c j ≡ u
          → bit_xor (cond s (cond (ltb c k && not u) (M i' c) 0) 0) (cond (s && u) (by_row k M j i) 0) ≡ cond s (cond u (by_row k M j i') (M i' c)) 0
      go false e u f = refl
      go true e true f =
          ap (λ b. bit_xor (cond (b && false) (M i' c) 0) (by_row k M j i)) (sym (lt-true c k ck)) ∙ ap (by_row k M j) (sym (eqb-true i' i e))
      go true e false f = xor_zero_r (cond (ltb c k && true) (M i' c) 0) ∙ ap (λ b. cond (b && true) (M i' c) 0) (sym (lt-true c k ck))

-- one more column is added, as another tray with the same blocks holds it
pub others_more : (k : ℕ) (right : Rule) (size s i j t : ℕ) (m m' : Meaning) (f : ℕ → ℕ) (was mid after : List ℕ) → s ≡ size → m' ≡ after_reads m f
    → Plus k size was (λ b r. only (eqb r i) (others t j (held m b i))) (λ b. lines_but k right i j (row_of i (below j t (held m b)))) mid
    → Plus k s mid (λ b r. only (eqb r i) (unless m' i j t b)) (λ b. lines_but k right i j (spot i t (unless m' i j t b))) after
    → Plus k size was (λ b r. only (eqb r i) (others (t + 1) j (held m b i))) (λ b. lines_but k right i j (row_of i (below j (t + 1) (held m b)))) after
others_more k right size s i j t m m' f was mid after h e p q =
    plus_same k size was _ _ _ _ after
    (λ b r _ _. sym (only_xor (eqb r i) (others t j (held m b i)) (unless m i j t b)) ∙ ap (only (eqb r i)) (others_next j t (held m b i)))
    (λ b n _ nl.
    but_more k right i j (row_of i (below j t (held m b))) (spot i t (unless m i j t b)) (row_of i (below j (t + 1) (held m b)))
    (λ i' c _ _. row_more i j (held m b) t i' c) n nl)
    (plus_plus k size was (λ b r. only (eqb r i) (others t j (held m b i))) (λ b. lines_but k right i j (row_of i (below j t (held m b))))
    (λ b r. only (eqb r i) (unless m i j t b)) (λ b. lines_but k right i j (spot i t (unless m i j t b))) mid after p
    (subst₂ (λ x y. Plus k x mid (λ b r. only (eqb r i) (unless y i j t b)) (λ b. lines_but k right i j (spot i t (unless y i j t b))) after) h e q))

-- none is added yet
pub others_none : (k : ℕ) (right : Rule) (size i j : ℕ) (m : Meaning) (was : List ℕ)
    → Plus k size was (λ b r. only (eqb r i) (others 0 j (held m b i))) (λ b. lines_but k right i j (row_of i (below j 0 (held m b)))) was
unfolding others xorsum
others_none k right size i j m was =
    plus_same k size was nothing nothing _ _ was (λ b r _ _. sym (only_zero (eqb r i) 0 (λ _. refl)))
    (λ b n _ _. sym (but_none k right i j (row_of i (below j 0 (held m b))) (row_none i j (held m b)) n)) (plus_none k size was)

-- ---- a row: the slot is set to the row's parity block (w₁), the other columns are added (w₂), and so is what is found (w₃)

module _ (k : ℕ) (right : Rule) (law : Tournament k right) (size : ℕ) (m : Meaning) (i j : ℕ) (jk : j < k) (il : i < rows k) (w₀ w₁ w₂ w₃ x : List ℕ)
    (start : SlotSet size w₀ i (λ b. held m b i k) w₁)
    (added : Plus k size w₁ (λ b r. only (eqb r i) (others k j (held m b i))) (λ b. lines_but k right i j (row_of i (below j k (held m b)))) w₂)
    (copied : IsSlot size w₂ i x)
    (passed : Plus k size w₂ nothing (to_lines k right i j j x) w₃) where
  by_sum : (b : ℕ) → b < size → row_slot size w₂ b i ≡ by_row k (held m b) j i
  unfolding by_row only
  by_sum b bl =
      added.row b i bl il
      ∙ ap₂ bit_xor (start i b bl ∙ ap (λ t. cond t (held m b i k) (slot size w₀ i b)) (sym (eq-true i i refl)))
      (ap (λ t. cond t (others k j (held m b i)) 0) (sym (eq-true i i refl)))

  other_row : (b r : ℕ) → b < size → r < rows k → r ≢ i → row_slot size w₂ b r ≡ row_slot size w₀ b r
  other_row b r bl rl ne =
      added.row b r bl rl
      ∙ ap₂ bit_xor (start r b bl ∙ ap (λ t. cond t (held m b i k) (slot size w₀ r b)) (sym (ne_false r i ne)))
      (only_false (eqb r i) (others k j (held m b i)) (sym (ne_false r i ne)))
      ∙ xor_zero_r (row_slot size w₀ b r)

  in_lines : (b n : ℕ) → b < size → n < rows k
      → line_slot k size w₃ b n ≡ bit_xor (line_slot k size w₀ b n) (lines_but k right i j (row_of i (with_row k (held m b) j)) n)
  in_lines b n bl nl =
      passed.line b n bl nl
      ∙ ap₂ bit_xor
      (added.line b n bl nl
      ∙ ap (λ y. bit_xor y (lines_but k right i j (row_of i (below j k (held m b))) n))
      (start (rows k + n) b bl ∙ ap (λ t. cond t (held m b i k) (line_slot k size w₀ b n)) (sym (ne_false (rows k + n) i (omega arith)))))
      (to_lines_but k right i j law j jk x b n ∙ ap (λ y. lines_but k right i j (spot i j y) n) (copied b bl ∙ by_sum b bl))
      ∙ xor_assoc (line_slot k size w₀ b n) (lines_but k right i j (row_of i (below j k (held m b))) n) (lines_but k right i j (spot i j (by_row k (held m b) j i)) n)
      ∙ ap (bit_xor (line_slot k size w₀ b n))
      (but_more k right i j (row_of i (below j k (held m b))) (spot i j (by_row k (held m b) j i)) (row_of i (with_row k (held m b) j))
      (λ i' c _ ck. row_all i j (held m b) k i' c ck) n nl)

  pub row_found : RowFound k right size j (held m) i w₀ w₃
  row_found =
      record {
        here = λ b bl. passed.row b i bl il ∙ xor_zero_r (row_slot size w₂ b i) ∙ by_sum b bl;
        rest = λ b r bl rl ne. passed.row b r bl rl ∙ xor_zero_r (row_slot size w₂ b r) ∙ other_row b r bl rl ne;
        line = in_lines;
      }
