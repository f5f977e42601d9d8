-- A data column that alone is out, row after row: the dark rows by the rows' sums, and the white ones by the lines.
use Rattle.std.proofs.Common.{◌≡◌, ℕ, suc, ◌+◌, ◌-◌, ◌^◌, ◌<◌, ◌≤◌, Bool, true, false, cond, not, ◌&&◌, eqb, ltb, ◌≢◌, List, sym, refl, ap, ◌∙◌, ap₂, true≢false, arith, eqb-true}
use native.Mathlib.Decide.{ℕ_discrete}
use lib.Bits.{bit_xor, xor_assoc, xor_zero_r}
use borrow.Author.Tests.{eq-true, ne_false, lt-true, le-false, eqb-false}
use Rattle.std.proofs.lemmas.Bool.Decides.{nat_tests}
use Rattle.tray.specs.Meaning.{Meaning, Wraps}
use Rattle.code.specs.Numbers.{only, count}
use Rattle.code.specs.Code.{Blocks, Rule, rows, dark, meets, butterfly, gives, beside}
use Rattle.code.proofs.Xor.{only_true, only_false, sum_same, sum_none}
use Rattle.code.proofs.Rows.{back, meets_lt, cross_own}
use Rattle.code.proofs.Linear.{difference, butterfly_same, butterfly_xor}
use Rattle.code.proofs.Lost.{beside_none, gives_none}
use Rattle.code.proofs.Count.{count_le, count_next}
use Rattle.code.proofs.DarkHalf.{dark_half}
use Rattle.law.specs.Hand.{others, by_row, with_row, by_line, regained}
use Rattle.shelf.specs.Slots.{slot, row_slot, line_slot}
use Rattle.shelf.specs.Reading.{after_reads, times}
use Rattle.shelf.specs.Regaining.{of_rows, half_of, Found, row_of, lines_but, RowFound, LinesRead, dark_below, Halfway}
use Rattle.shelf.proofs.Gathering.{reads_none, reads_same}

-- ---- the dark rows one by one

module _ (j n : ℕ) (E : Blocks) (i c : ℕ) where
  same_below : i ≢ n → ltb i n ≡ ltb i (n + 1)
  same_below ne = grind (arith, nat_tests)

  dark_more : dark n j ≡ true → bit_xor (dark_below j n E i c) (row_of n E i c) ≡ dark_below j (n + 1) E i c
  unfolding dark_below row_of only
  dark_more d = go (eqb i n) refl
    where
      go : (s : Bool) → eqb i n ≡ s → bit_xor (cond (ltb i n && dark i j) (E i c) 0) (cond s (E i c) 0) ≡ cond (ltb i (n + 1) && dark i j) (E i c) 0
      go true e =
          ap (λ b. bit_xor (cond (b && dark i j) (E i c) 0) (E i c)) (sym (le-false i n (omega (arith, eqb-true i n e))))
          ∙ ap (λ b. cond b (E i c) 0) (sym d ∙ ap (λ r. dark r j) (sym (eqb-true i n e)))
          ∙ ap (λ b. cond (b && dark i j) (E i c) 0) (lt-true i (n + 1) (omega (arith, eqb-true i n e)))
      go false e =
          xor_zero_r (cond (ltb i n && dark i j) (E i c) 0)
          ∙ ap (λ b. cond (b && dark i j) (E i c) 0) (same_below (eqb-false i n e))

  dark_less : dark n j ≡ false → dark_below j n E i c ≡ dark_below j (n + 1) E i c
  unfolding dark_below
  dark_less d =
      elim (ℕ_discrete i n) [
        | yes e ↦ ap (λ b. only (ltb i n && b) (E i c)) (white e) ∙ off (ltb i n) (ltb i (n + 1)) ∙ ap (λ b. only (ltb i (n + 1) && b) (E i c)) (sym (white e))
        | no ne ↦ ap (λ b. only (b && dark i j) (E i c)) (same_below ne)
      ]
    where
      white : i ≡ n → dark i j ≡ false
      white e = ap (λ r. dark r j) e ∙ d

      off : (s t : Bool) → only (s && false) (E i c) ≡ only (t && false) (E i c)
      off true true = refl
      off true false = refl
      off false true = refl
      off false false = refl

-- no line goes through two rows of a column
apart : (i n j : ℕ) → i ≢ n → meets i j ≢ meets n j
apart i n j ne e = ne (sym (back i j) ∙ ap (λ x. meets x j) e ∙ back n j)

differ : (i n j : ℕ) → dark i j ≡ false → dark n j ≡ true → i ≢ n
differ i n j d d' e = true≢false (sym d' ∙ ap (λ r. dark r j) (sym e) ∙ d)

module _ (k : ℕ) (right : Rule) (size j : ℕ) (M : ℕ → Blocks) (n : ℕ) (jk : j < k) (nl : n < rows k) where
  module _ (was after : List ℕ) (d : dark n j ≡ true) (h : Halfway k right size j M n was) (found : RowFound k right size j M n was after) where
    line_on : (b i : ℕ) → b < size → i < rows k → dark i j ≡ false
        → line_slot k size after b (meets i j) ≡ bit_xor (M b (meets i j) (k + 1)) (butterfly k right (dark_below j (n + 1) (with_row k (M b) j)) (meets i j))
    unfolding lines_but
    line_on b i bl il w =
        let W : Blocks = with_row k (M b) j in
        let l : ℕ = meets i j in
        let ll : l < rows k = meets_lt k i j il jk in
        found.line b l bl ll
        ∙ ap₂ bit_xor (h.line b i bl il w)
        (only_true (not (eqb l (meets n j))) (butterfly k right (row_of n W) l) (ap not (sym (ne_false l (meets n j) (apart i n j (differ i n j w d))))))
        ∙ xor_assoc (M b l (k + 1)) (butterfly k right (dark_below j n W) l) (butterfly k right (row_of n W) l)
        ∙ ap (bit_xor (M b l (k + 1)))
        (sym (butterfly_xor k right (dark_below j n W) (row_of n W) l)
        ∙ butterfly_same k right (difference (dark_below j n W) (row_of n W)) (dark_below j (n + 1) W) (λ i' c _ _. dark_more j n W i' c d) l ll)

    pub on_dark : Halfway k right size j M (n + 1) after
    on_dark =
        record {
          row = λ b i bl il d'.
              elim (ℕ_discrete i n) [
                | yes e ↦ ap (row_slot size after b) e ∙ found.here b bl ∙ ap (by_row k (M b) j) (sym e)
                | no ne ↦ found.rest b i bl (omega arith) ne ∙ h.row b i bl (omega arith) d'
              ];
          line = line_on;
        }

  pub on_white : (work : List ℕ) → dark n j ≡ false → Halfway k right size j M n work → Halfway k right size j M (n + 1) work
  on_white work d h =
      record {
        row = λ b i bl il d'. let ne : n ≢ i = differ n i j d d' in h.row b i bl (omega arith) d';
        line = λ b i bl il w.
            h.line b i bl il w
            ∙ ap (bit_xor (M b (meets i j) (k + 1)))
            (butterfly_same k right (dark_below j n (with_row k (M b) j)) (dark_below j (n + 1) (with_row k (M b) j))
            (λ i' c _ _. dark_less j n (with_row k (M b) j) i' c d) (meets i j) (meets_lt k i j il jk));
      }

-- ---- the start and the end

module _ (k : ℕ) (right : Rule) (size j : ℕ) (M : ℕ → Blocks) (jk : j < k) (work : List ℕ) where
  pub halfway_none : LinesRead k size j M (rows k) work → Halfway k right size j M 0 work
  unfolding butterfly dark_below
  halfway_none h =
      record {
        row = λ b i bl il d. omega arith;
        line = λ b i bl il w.
            h b i bl il w ∙ sym (xor_zero_r (M b (meets i j) (k + 1)))
            ∙ ap (bit_xor (M b (meets i j) (k + 1))) (sym (no_sum (dark_below j 0 (with_row k (M b) j)) (meets i j) (nought b)));
      }
    where
      no_sum : (E : Blocks) (n : ℕ) → ((i c : ℕ) → E i c ≡ 0) → butterfly k right E n ≡ 0
      no_sum E n z =
          sum_none k (λ c. gives k right E (meets n c) c) (λ c _. gives_none k right E (meets n c) c (z (meets n c) c) (λ _. beside_none k right E (meets n c) c (λ c' _ _. z (meets n c) c')))

      nought : (b i c : ℕ) → dark_below j 0 (with_row k (M b) j) i c ≡ 0
      nought b i c = only_false (ltb i 0 && dark i j) (with_row k (M b) j i c) (grind (arith, nat_tests))

  -- what a line takes in a row depends on that row alone
  gives_in_row : (D E : Blocks) (u c : ℕ) → c < k → ((c' : ℕ) → c' < k → D u c' ≡ E u c') → gives k right D u c ≡ gives k right E u c
  unfolding gives beside
  gives_in_row D E u c ck same =
      ap₂ (λ x y. bit_xor x (only (dark u c) y)) (same c ck)
      (sum_same k (λ c'. only (right c c') (D u c')) (λ c'. only (right c c') (E u c')) (λ c' l. ap (only (right c c')) (same c' l)))

  in_white : (W : Blocks) (u c : ℕ) → dark u j ≡ false → dark_below j (rows k) W u c ≡ 0
  unfolding dark_below
  in_white W u c d = only_false (ltb u (rows k) && dark u j) (W u c) (ap (λ b. ltb u (rows k) && b) d ∙ off (ltb u (rows k)))
    where
      off : (b : Bool) → b && false ≡ false
      off true = refl
      off false = refl

  in_dark : (W : Blocks) (u c : ℕ) → u < rows k → dark u j ≡ true → dark_below j (rows k) W u c ≡ W u c
  unfolding dark_below
  in_dark W u c l d = only_true (ltb u (rows k) && dark u j) (W u c) (ap₂ (λ a b. a && b) (sym (lt-true u (rows k) l)) d)

  -- the line through a white place meets every other column in a dark row
  line_sum : (W : Blocks) (i : ℕ) → i < rows k → dark i j ≡ false
      → butterfly k right (dark_below j (rows k) W) (meets i j) ≡ others k j (λ c. gives k right W (meets (meets i j) c) c)
  unfolding butterfly others
  line_sum W i il d =
      sum_same k (λ c. gives k right (dark_below j (rows k) W) (meets (meets i j) c) c) (λ c. only (not (eqb c j)) (gives k right W (meets (meets i j) c) c)) each
    where
      E : Blocks
      E = dark_below j (rows k) W

      own : (u c : ℕ) → dark u j ≡ false → gives k right E u c ≡ 0
      own u c w = gives_none k right E u c (in_white W u c w) (λ _. beside_none k right E u c (λ c' _ _. in_white W u c' w))

      other : (c : ℕ) → c < k → c ≢ j → gives k right E (meets (meets i j) c) c ≡ gives k right W (meets (meets i j) c) c
      other c ck ne =
          let u : ℕ = meets (meets i j) c in
          gives_in_row E W u c ck
          (λ c' _. in_dark W u c' (meets_lt k (meets i j) c (meets_lt k i j il jk) ck) (cross_own i j c (λ e. ne (sym e)) ∙ ap not d))

      each : (c : ℕ) → c < k → gives k right E (meets (meets i j) c) c ≡ only (not (eqb c j)) (gives k right W (meets (meets i j) c) c)
      each c ck =
          elim (ℕ_discrete c j) [
            | yes e ↦
                own (meets (meets i j) c) c (ap (λ x. dark (meets (meets i j) x) j) e ∙ ap (λ x. dark x j) (back i j) ∙ d)
                ∙ sym (only_false (not (eqb c j)) (gives k right W (meets (meets i j) c) c) (ap not (sym (eq-true c j e))))
            | no ne ↦ other c ck ne ∙ sym (only_true (not (eqb c j)) (gives k right W (meets (meets i j) c) c) (ap not (sym (ne_false c j ne))))
          ]

  pub all_found : Halfway k right size j M (rows k) work → Found k right size j M work
  unfolding regained by_line
  all_found h i b il bl = go (dark i j) refl
    where
      go : (s : Bool) → dark i j ≡ s → slot size work (cond s i (rows k + meets i j)) b ≡ cond s (by_row k (M b) j i) (by_line k right (M b) j i)
      go true d = h.row b i bl il d
      go false d = h.line b i bl il d ∙ ap (bit_xor (M b (meets i j) (k + 1))) (line_sum (with_row k (M b) j) i il d)

-- ---- the reads

module _ (k j : ℕ) where
  pub rows_none : (m : Meaning) → Wraps m → m ≡ after_reads m (of_rows k j 0)
  rows_none m w = reads_none m w ∙ reads_same m (λ _. 0) (of_rows k j 0) none
    where
      none : (c : ℕ) → 0 ≡ of_rows k j 0 c
      none c = grind (arith, nat_tests)

  pub rows_more : (n c : ℕ) → of_rows k j (count n (λ i. dark i j)) c + of_rows k j (cond (dark n j) 1 0) c ≡ of_rows k j (count (n + 1) (λ i. dark i j)) c
  rows_more n c = let e = count_next n (λ i. dark i j) in grind (arith, nat_tests)

  pub lines_more : (n c : ℕ) → times (k + 1) (n - count n (λ i. dark i j)) c + times (k + 1) (cond (dark n j) 0 1) c ≡ times (k + 1) (n + 1 - count (n + 1) (λ i. dark i j)) c
  lines_more n c = let e = count_next n (λ i. dark i j) in let l = count_le n (λ i. dark i j) in grind (arith, nat_tests)

  pub half_read : 2 ≤ k → j < k → (c : ℕ) → times (k + 1) (rows k - count (rows k) (λ i. dark i j)) c + of_rows k j (count (rows k) (λ i. dark i j)) c ≡ half_of k j c
  unfolding rows
  half_read kl jk c =
      let e : count (rows k) (λ i. dark i j) ≡ 2 ^ (k - 2) = dark_half k j kl jk in
      let f : 2 ^ (k - 1) ≡ 2 ^ suc (k - 2) = ap (λ n. 2 ^ n) (less_one k kl) in
      let h : rows k - count (rows k) (λ i. dark i j) ≡ 2 ^ (k - 2) = omega arith in
      grind (arith, nat_tests)
    where
      less_one : (k : ℕ) → 2 ≤ k → k - 1 ≡ suc (k - 2)
      less_one k l = omega arith
