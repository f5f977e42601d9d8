-- What was gathered, against the data that the columns in service fit; and where the solver leaves the missing columns.
use Rattle.std.proofs.Common.{◌≡◌, ℕ, ◌+◌, ◌<◌, Bool, true, false, cond, not, ◌&&◌, ◌||◌, eqb, ltb, ◌≢◌, ◌⊎◌, List, sym, refl, ap, ◌∙◌, ap₂, inl, inr, true≢false, arith}
use native.Mathlib.Decide.{ℕ_discrete}
use lib.Bits.{bit_xor, xor_comm, xor_assoc, xor_self, xor_zero_r}
use borrow.Author.Tests.{eq-true, ne_false, lt-true}
use Rattle.tray.specs.Meaning.{Meaning}
use Rattle.code.specs.Numbers.{only}
use Rattle.code.specs.Code.{Blocks, Rule, rows, meets, horizontal, butterfly, value}
use Rattle.code.specs.Laws.{lane}
use Rattle.code.proofs.Xor.{only_true, only_false, sum_one, sum_two}
use Rattle.code.proofs.Rows.{meets_lt}
use Rattle.code.proofs.Linear.{difference, value_data, value_horizontal, value_butterfly, horizontal_same, butterfly_same, horizontal_xor, butterfly_xor}
use Rattle.law.specs.Service.{Columns}
use Rattle.law.specs.Holding.{Data, held, Fits}
use Rattle.shelf.specs.Slots.{slot, row_slot, line_slot}
use Rattle.shelf.specs.Reading.{served, data_out, parity_read, Gathered}
use Rattle.shelf.specs.Solving.{from_rows, unknown, Solving}
use Rattle.shelf.specs.Recovering.{slot_for}
use Rattle.shelf.proofs.Spreading.{Spread}

-- the blocks of data in the columns that are out, and in those in service
abbrev pub lost : Columns → Blocks → Blocks
lost out E i c = only (out c) (E i c)

abbrev pub kept : Columns → Blocks → Blocks
kept out E i c = only (not (out c)) (E i c)

split : (o : Bool) (x : ℕ) → bit_xor x (only (not o) x) ≡ only o x
unfolding only
split true x = xor_zero_r x
split false x = xor_self x

module _ (k : ℕ) (right : Rule) (size : ℕ) (out : Columns) (m : Meaning) (D : Data) (fits : Fits k right size out D m) (work : List ℕ)
    (g : Gathered k right size out m work) where
  served_kept : (b i c : ℕ) → b < size → i < rows k → c < k → served out k (held m b) i c ≡ kept out (lane D b) i c
  unfolding only
  served_kept b i c bl il ck = ap (λ x. cond (not (out c) && x) (held m b i c) 0) (sym (lt-true c k ck)) ∙ go (out c) refl
    where
      go : (o : Bool) → out c ≡ o → cond (not o && true) (held m b i c) 0 ≡ cond (not o) (lane D b i c) 0
      go true e = refl
      go false e = fits c i b (omega arith) e il bl ∙ value_data k right (lane D b) c i ck

  in_service-read : (c : ℕ) → parity_read k out c ≡ true → out c ≡ false
  in_service-read c e = go (data_out k out) (out c) e
    where
      go : (d o : Bool) → d && not o ≡ true → o ≡ false
      go true true e = absurd (true≢false (sym e))
      go true false e = refl
      go false o e = absurd (true≢false (sym e))

  -- a parity that is read leaves the sum of what is lost, and one that is not the sum of what is in service
  pub row_lost : parity_read k out k ≡ true → (b r : ℕ) → b < size → r < rows k → row_slot size work b r ≡ horizontal k (lost out (lane D b)) r
  row_lost e b r bl rl =
      g.row b r bl rl
      ∙ ap₂ bit_xor (only_true (parity_read k out k) (held m b r k) e ∙ fits k r b (omega arith) (in_service-read k e) rl bl ∙ value_horizontal k right (lane D b) r)
      (horizontal_same k right (served out k (held m b)) (kept out (lane D b)) (λ i c il ck. served_kept b i c bl il ck) r rl)
      ∙ sym (horizontal_xor k right (lane D b) (kept out (lane D b)) r)
      ∙ horizontal_same k right (difference (lane D b) (kept out (lane D b))) (lost out (lane D b)) (λ i c _ _. split (out c) (lane D b i c)) r rl

  pub row_kept : parity_read k out k ≡ false → (b r : ℕ) → b < size → r < rows k → row_slot size work b r ≡ horizontal k (kept out (lane D b)) r
  row_kept e b r bl rl =
      g.row b r bl rl ∙ ap (λ x. bit_xor x (horizontal k (served out k (held m b)) r)) (only_false (parity_read k out k) (held m b r k) e)
      ∙ horizontal_same k right (served out k (held m b)) (kept out (lane D b)) (λ i c il ck. served_kept b i c bl il ck) r rl

  pub line_lost : parity_read k out (k + 1) ≡ true → (b n : ℕ) → b < size → n < rows k → line_slot k size work b n ≡ butterfly k right (lost out (lane D b)) n
  line_lost e b n bl nl =
      g.line b n bl nl
      ∙ ap₂ bit_xor (only_true (parity_read k out (k + 1)) (held m b n (k + 1)) e ∙ fits (k + 1) n b (omega arith) (in_service-read (k + 1) e) nl bl ∙ value_butterfly k right (lane D b) n)
      (butterfly_same k right (served out k (held m b)) (kept out (lane D b)) (λ i c il ck. served_kept b i c bl il ck) n nl)
      ∙ sym (butterfly_xor k right (lane D b) (kept out (lane D b)) n)
      ∙ butterfly_same k right (difference (lane D b) (kept out (lane D b))) (lost out (lane D b)) (λ i c _ _. split (out c) (lane D b i c)) n nl

  pub line_kept : parity_read k out (k + 1) ≡ false → (b n : ℕ) → b < size → n < rows k → line_slot k size work b n ≡ butterfly k right (kept out (lane D b)) n
  line_kept e b n bl nl =
      g.line b n bl nl ∙ ap (λ x. bit_xor x (butterfly k right (served out k (held m b)) n)) (only_false (parity_read k out (k + 1)) (held m b n (k + 1)) e)
      ∙ butterfly_same k right (served out k (held m b)) (kept out (lane D b)) (λ i c il ck. served_kept b i c bl il ck) n nl

-- ---- one or two of the data columns are lost

module _ (k : ℕ) (right : Rule) (out : Columns) (E : Blocks) where
  lost_off : (i c : ℕ) → out c ≡ false → lost out E i c ≡ 0
  lost_off i c e = only_false (out c) (E i c) e

  lost_on : (i c : ℕ) → out c ≡ true → lost out E i c ≡ E i c
  lost_on i c e = only_true (out c) (E i c) e

  pub row_of_two : (p q : ℕ) → p < k → q < k → p ≢ q → out p ≡ true → out q ≡ true → ((c : ℕ) → c < k → c ≢ p → c ≢ q → out c ≡ false)
      → (r : ℕ) → horizontal k (lost out E) r ≡ bit_xor (E r p) (E r q)
  unfolding horizontal
  row_of_two p q pk qk d op oq rest r =
      sum_two k (lost out E r) p q pk qk d (λ j jk n n'. lost_off r j (rest j jk n n')) ∙ ap₂ bit_xor (lost_on r p op) (lost_on r q oq)

  pub row_of_one : (p : ℕ) → p < k → out p ≡ true → ((c : ℕ) → c < k → c ≢ p → out c ≡ false) → (r : ℕ) → horizontal k (lost out E) r ≡ E r p
  unfolding horizontal
  row_of_one p pk op rest r = sum_one k (lost out E r) p pk (λ j jk n. lost_off r j (rest j jk n)) ∙ lost_on r p op

  -- the sum of a row without the one lost column
  pub row_without : (p : ℕ) → p < k → out p ≡ true → ((c : ℕ) → c < k → c ≢ p → out c ≡ false)
      → (r : ℕ) → r < rows k → horizontal k (kept out E) r ≡ bit_xor (horizontal k E r) (E r p)
  row_without p pk op rest r rl =
      horizontal_same k right (kept out E) (difference E (lost out E)) (λ i c _ _. split' (out c) (E i c)) r rl
      ∙ horizontal_xor k right E (lost out E) r ∙ ap (bit_xor (horizontal k E r)) (row_of_one p pk op rest r)
    where
      split' : (o : Bool) (x : ℕ) → only (not o) x ≡ bit_xor x (only o x)
      split' true x = only_false false x refl ∙ sym (xor_self x) ∙ ap (bit_xor x) (sym (only_true true x refl))
      split' false x = only_true true x refl ∙ sym (xor_zero_r x) ∙ ap (bit_xor x) (sym (only_false false x refl))

-- ---- the start of the solver

-- two data columns: the rows' sums were spread as blocks of column q
pub start_two : (k : ℕ) (right : Rule) (size : ℕ) (out : Columns) (D : ℕ → Blocks) (p q : ℕ) → p < k → q < k → p ≢ q
    → out p ≡ true → out q ≡ true → ((c : ℕ) → c < k → c ≢ p → c ≢ q → out c ≡ false)
    → (was work : List ℕ)
    → ((b r : ℕ) → b < size → r < rows k → row_slot size was b r ≡ horizontal k (lost out (D b)) r)
    → ((b n : ℕ) → b < size → n < rows k → line_slot k size was b n ≡ butterfly k right (lost out (D b)) n)
    → Spread k right size was q work → Solving k right size p q D (λ _. false) work
unfolding unknown only
start_two k right size out D p q pk qk d op oq rest was work rs ls spread =
    record {
      row = λ b r bl rl.
          spread.row b r bl rl ∙ xor_zero_r (row_slot size was b r) ∙ rs b r bl rl ∙ row_of_two k right out (D b) p q pk qk d op oq rest r
          ∙ xor_comm (D b r p) (D b r q) ∙ ap (λ x. bit_xor x (D b r p)) (sym (value_data k right (D b) q r qk));
      sought = λ b r bl rl _.
          spread.line b (meets r p) bl (meets_lt k r p rl pk) ∙ ap (λ x. bit_xor x (butterfly k right (from_rows size was q b) (meets r p))) (ls b (meets r p) bl (meets_lt k r p rl pk))
          ∙ sym (butterfly_xor k right (lost out (D b)) (from_rows size was q b) (meets r p))
          ∙ butterfly_same k right (difference (lost out (D b)) (from_rows size was q b)) (unknown (λ _. false) p q (D b)) (λ i c il ck. at b i c bl il ck) (meets r p) (meets_lt k r p rl pk);
      found = λ b r bl rl e. absurd (true≢false (sym e));
    }
  where
    at : (b i c : ℕ) → b < size → i < rows k → c < k
        → bit_xor (cond (out c) (D b i c) 0) (cond (eqb c q) (row_slot size was b i) 0) ≡ cond ((eqb c p || eqb c q) && true) (D b i p) 0
    at b i c bl il ck =
        elim (ℕ_discrete c q) [
          | yes e ↦
              ap₂ (λ x y. bit_xor (cond x (D b i c) 0) (cond y (row_slot size was b i) 0)) (ap out e ∙ oq) (sym (eq-true c q e))
              ∙ ap₂ bit_xor (ap (D b i) e) (rs b i bl il ∙ row_of_two k right out (D b) p q pk qk d op oq rest i ∙ xor_comm (D b i p) (D b i q))
              ∙ sym (xor_assoc (D b i q) (D b i q) (D b i p)) ∙ ap (λ x. bit_xor x (D b i p)) (xor_self (D b i q))
              ∙ ap₂ (λ x y. cond ((x || y) && true) (D b i p) 0) (ne_false c p (λ f. d (sym f ∙ e))) (eq-true c q e)
          | no n ↦
              ap (λ y. bit_xor (cond (out c) (D b i c) 0) (cond y (row_slot size was b i) 0)) (sym (ne_false c q n)) ∙ xor_zero_r (cond (out c) (D b i c) 0)
              ∙ elim (ℕ_discrete c p) [
                | yes f ↦
                    ap (λ x. cond x (D b i c) 0) (ap out f ∙ op) ∙ ap (D b i) f
                    ∙ ap (λ x. cond ((x || eqb c q) && true) (D b i p) 0) (eq-true c p f)
                | no n' ↦
                    ap (λ x. cond x (D b i c) 0) (rest c ck n' n)
                    ∙ ap₂ (λ x y. cond ((x || y) && true) (D b i p) 0) (ne_false c p n') (ne_false c q n)
              ]
        ]

-- a data column and the horizontal one
pub start_one : (k : ℕ) (right : Rule) (size : ℕ) (out : Columns) (D : ℕ → Blocks) (p : ℕ) → p < k → out p ≡ true → ((c : ℕ) → c < k → c ≢ p → out c ≡ false)
    → (work : List ℕ)
    → ((b r : ℕ) → b < size → r < rows k → row_slot size work b r ≡ horizontal k (kept out (D b)) r)
    → ((b n : ℕ) → b < size → n < rows k → line_slot k size work b n ≡ butterfly k right (lost out (D b)) n)
    → Solving k right size p k D (λ _. false) work
unfolding unknown only
start_one k right size out D p pk op rest work rs ls =
    record {
      row = λ b r bl rl. rs b r bl rl ∙ row_without k right out (D b) p pk op rest r rl ∙ ap (λ x. bit_xor x (D b r p)) (sym (value_horizontal k right (D b) r));
      sought = λ b r bl rl _.
          ls b (meets r p) bl (meets_lt k r p rl pk)
          ∙ butterfly_same k right (lost out (D b)) (unknown (λ _. false) p k (D b)) (λ i c il ck. at b i c ck) (meets r p) (meets_lt k r p rl pk);
      found = λ b r bl rl e. absurd (true≢false (sym e));
    }
  where
    at : (b i c : ℕ) → c < k → cond (out c) (D b i c) 0 ≡ cond ((eqb c p || eqb c k) && true) (D b i p) 0
    at b i c ck =
        elim (ℕ_discrete c p) [
          | yes f ↦ ap (λ x. cond x (D b i c) 0) (ap out f ∙ op) ∙ ap (D b i) f ∙ ap (λ x. cond ((x || eqb c k) && true) (D b i p) 0) (eq-true c p f)
          | no n ↦ ap (λ x. cond x (D b i c) 0) (rest c ck n) ∙ ap₂ (λ x y. cond ((x || y) && true) (D b i p) 0) (ne_false c p n) (ne_false c k (omega arith))
        ]

-- ---- its end

pub solved_at : (k : ℕ) (right : Rule) (size p q : ℕ) → p < k → p ≢ q → (D : ℕ → Blocks) (work : List ℕ) → Solving k right size p q D (λ _. true) work
    → (c : ℕ) → (c ≡ p) ⊎ (c ≡ q) → (r b : ℕ) → r < rows k → b < size → slot size work (slot_for k q c r) b ≡ value k right (D b) c r
unfolding slot_for only
solved_at k right size p q pk d D work s c (inl e) r b rl bl =
    ap (λ x. slot size work (cond x r (rows k + cond (ltb c k) (meets r c) r)) b) (sym (ne_false c q (λ f. d (sym e ∙ f))))
    ∙ ap (λ x. slot size work (rows k + cond x (meets r c) r) b) (sym (lt-true c k (omega arith)))
    ∙ ap (λ x. slot size work (rows k + meets r x) b) e ∙ s.found b r bl rl refl
    ∙ sym (ap (λ x. value k right (D b) x r) e ∙ value_data k right (D b) p r pk)
solved_at k right size p q pk d D work s c (inr e) r b rl bl =
    ap (λ x. slot size work (cond x r (rows k + cond (ltb c k) (meets r c) r)) b) (sym (eq-true c q e))
    ∙ s.row b r bl rl ∙ xor_zero_r (value k right (D b) q r) ∙ ap (λ x. value k right (D b) x r) (sym e)
