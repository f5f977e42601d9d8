-- Data X whose values are 0 in the columns that are left is 0.
use Rattle.std.proofs.Common.{◌≡◌, ℕ, zero, suc, ◌<◌, Bool, true, false, cond, not, ◌&&◌, eqb, ◌≢◌, sym, refl, ap, ◌∙◌, ap₂, true≢false, arith}
use native.Mathlib.Decide.{ℕ_discrete}
use lib.Bits.{bit_xor, xor_zero_r}
use Rattle.std.proofs.Math.Bool.{and-true}
use borrow.Author.Tests.{ne_false, eqb-false, not-false}
use Rattle.code.specs.Numbers.{only}
use Rattle.code.specs.Code.{Blocks, Rule, rows, dark, meets, horizontal, beside, gives, butterfly}
use Rattle.code.specs.Neighbours.{Tournament}
use Rattle.code.specs.Laws.{light, whites, rank}
use Rattle.code.proofs.Xor.{xor_zero_eq, xor_eq_zero, only_zero, sum_none, sum_one, sum_two}
use Rattle.code.proofs.Rows.{back, meets_lt, cross_own, cross_other, cross_rest}
use Rattle.code.proofs.Count.{count_same, count_less, one_at_most}

module _ (k : ℕ) (right : Rule) (X : Blocks) where
  -- the right neighbours hold nothing
  pub beside_none : (u j : ℕ) → ((j' : ℕ) → j' < k → right j j' ≡ true → X u j' ≡ 0) → beside k right X u j ≡ 0
  unfolding beside
  beside_none u j h = sum_none k (λ j'. only (right j j') (X u j')) (λ j' l. only_zero (right j j') (X u j') (h j' l))

  pub gives_none : (u j : ℕ) → X u j ≡ 0 → (dark u j ≡ true → beside k right X u j ≡ 0) → gives k right X u j ≡ 0
  unfolding gives
  gives_none u j e h = ap₂ bit_xor e (only_zero (dark u j) (beside k right X u j) h)

  -- the line through the place (v, p) holds what the place does, where each other column gives it nothing
  pub by_line : (v p : ℕ) → p < k → ((j : ℕ) → j < k → j ≢ p → gives k right X (meets (meets v p) j) j ≡ 0)
      → (dark v p ≡ true → beside k right X v p ≡ 0) → X v p ≡ butterfly k right X (meets v p)
  unfolding butterfly gives
  by_line v p l h b =
      sym (xor_zero_r (X v p)) ∙ ap (bit_xor (X v p)) (sym (only_zero (dark v p) (beside k right X v p) b))
      ∙ ap (λ u. gives k right X u p) (sym (back v p))
      ∙ sym (sum_one k (λ j. gives k right X (meets (meets v p) j) j) p l h)

  -- the row of the place, where each other column holds nothing
  pub by_row : (v p : ℕ) → p < k → horizontal k X v ≡ 0 → ((j : ℕ) → j < k → j ≢ p → X v j ≡ 0) → X v p ≡ 0
  unfolding horizontal
  by_row v p l e h = sym (sum_one k (X v) p l h) ∙ e

-- ---- one data column lost: half of the others tells it

module _ (k : ℕ) (right : Rule) (X : Blocks) (p : ℕ) (pk : p < k)
    (columns : (i c : ℕ) → i < rows k → dark i p ≡ true → c < k → c ≢ p → X i c ≡ 0)
    (sums : (i : ℕ) → i < rows k → dark i p ≡ true → horizontal k X i ≡ 0)
    (lines : (i : ℕ) → i < rows k → dark i p ≡ false → butterfly k right X (meets i p) ≡ 0) where
  -- in a dark row, every column holds nothing
  dark_row : (i : ℕ) → i < rows k → dark i p ≡ true → (c : ℕ) → c < k → X i c ≡ 0
  dark_row i l e c ck =
      elim (ℕ_discrete c p) [
        | yes y ↦ ap (X i) y ∙ by_row k right X i p pk (sums i l e) (λ j jk d. columns i j l e jk d)
        | no n ↦ columns i c l e ck n
      ]

  -- the line of a white row passes through dark rows elsewhere
  white_row : (i : ℕ) → i < rows k → dark i p ≡ false → X i p ≡ 0
  white_row i l e =
      by_line k right X i p pk
      (λ j jk d.
      let u : ℕ = meets (meets i p) j in
      let all : (c : ℕ) → c < k → X u c ≡ 0 =
      dark_row u (meets_lt k (meets i p) j (meets_lt k i p l pk) jk) (cross_own i p j (λ y. d (sym y)) ∙ ap not e) in
      gives_none k right X u j (all j jk) (λ _. beside_none k right X u j (λ j' l' _. all j' l')))
      (λ t. absurd (true≢false (sym t ∙ e)))
      ∙ lines i l e

  pub half_none : (i : ℕ) → i < rows k → X i p ≡ 0
  half_none i l = go (dark i p) refl
    where
      go : (b : Bool) → dark i p ≡ b → X i p ≡ 0
      go true e = dark_row i l e p pk
      go false e = white_row i l e

-- ---- the columns other than p and q at which a row is white, and how many they are

module _ (k p q : ℕ) where
  light_at : (v i : ℕ) → i ≢ p → i ≢ q → light p q v i ≡ not (dark v i)
  unfolding light
  light_at v i n m = ap₂ (λ s t. not (dark v i) && not s && not t) (sym (ne_false i p n)) (sym (ne_false i q m)) ∙ and-true (not (dark v i) && true) ∙ and-true (not (dark v i))

  light_same : (u v i : ℕ) → (i ≢ p → i ≢ q → dark u i ≡ dark v i) → light p q u i ≡ light p q v i
  unfolding light
  light_same u v i h = go (eqb i p) (eqb i q) refl refl
    where
      off : (b c : Bool) → b && false && c ≡ false
      off true c = refl
      off false c = refl

      off₂ : (b : Bool) → b && true && false ≡ false
      off₂ true = refl
      off₂ false = refl

      go : (s t : Bool) → eqb i p ≡ s → eqb i q ≡ t → not (dark u i) && not s && not t ≡ not (dark v i) && not s && not t
      go true t e f = off (not (dark u i)) (not t) ∙ sym (off (not (dark v i)) (not t))
      go false true e f = off₂ (not (dark u i)) ∙ sym (off₂ (not (dark v i)))
      go false false e f = ap (λ b. not b && true && true) (h (eqb-false i p e) (eqb-false i q f))

  same_whites : (v : ℕ) → whites k p q (meets (meets v p) q) ≡ whites k p q v
  unfolding whites
  same_whites v = count_same k (light p q (meets (meets v p) q)) (light p q v) (λ i l. light_same (meets (meets v p) q) v i (cross_rest v p q i))

  fewer_whites : (v j : ℕ) → j < k → j ≢ p → j ≢ q → dark (meets (meets v p) j) j ≡ true → whites k p q (meets (meets v p) j) < whites k p q v
  unfolding whites
  fewer_whites v j jk n m e =
      count_less k (light p q (meets (meets v p) j)) (light p q v) j jk
      (light_at (meets (meets v p) j) j n m ∙ ap not e) (light_at v j n m ∙ sym (cross_other v p j (λ y. n (sym y))) ∙ e)
      (λ i l f. light_same (meets (meets v p) j) v i (λ n' _. cross_rest v p j i n' f))

  -- the rank by fewer white places, and by the place at q
  pub rank_whites : (u v : ℕ) → whites k p q u < whites k p q v → rank k p q u < rank k p q v
  unfolding rank
  rank_whites u v l = omega (arith, one_at_most (dark u q))

  rank_across : (v : ℕ) → p ≢ q → dark (meets (meets v p) q) q ≡ false → rank k p q (meets (meets v p) q) < rank k p q v
  unfolding rank
  rank_across v d e =
      omega (arith, same_whites v, ap (λ b. cond {A = ℕ} b 1 0) e, ap (λ b. cond {A = ℕ} b 1 0) (not-false (dark v q) (sym (cross_other v p q d) ∙ e)))

-- ---- column p lost, and a column q: a parity column, or a data column that is no right neighbour of p

module _ (k : ℕ) (right : Rule) (law : Tournament k right) (X : Blocks) (p q : ℕ) (pk : p < k)
    (away : q < k → right p q ≡ false)
    (columns : (i c : ℕ) → i < rows k → c < k → c ≢ p → c ≢ q → X i c ≡ 0)
    (also : (u : ℕ) → u < rows k → q < k → X u p ≡ 0 → X u q ≡ 0) where
  -- a row in which column p holds nothing
  row_none : (u : ℕ) → u < rows k → X u p ≡ 0 → (c : ℕ) → c < k → X u c ≡ 0
  row_none u l e c ck =
      elim (ℕ_discrete c p) [
        | yes y ↦ ap (X u) y ∙ e
        | no n ↦ elim (ℕ_discrete c q) [ yes y ↦ ap (X u) y ∙ also u l (omega arith) e | no m ↦ columns u c l ck n m ]
      ]

  -- row v, where column q gives the line nothing and the rows with fewer white columns hold nothing
  row_by_line : (v : ℕ) → v < rows k → ((u : ℕ) → u < rows k → whites k p q u < whites k p q v → X u p ≡ 0)
      → (q < k → gives k right X (meets (meets v p) q) q ≡ 0) → X v p ≡ butterfly k right X (meets v p)
  row_by_line v l ih hq =
      by_line k right X v p pk term
      (λ _. beside_none k right X v p (λ j jk r. columns v j l jk (not_p j r) (not_q j jk r)))
    where
      not_p : (j : ℕ) → right p j ≡ true → j ≢ p
      not_p j r y = true≢false (sym r ∙ ap (right p) y ∙ law.not_own p pk)

      not_q : (j : ℕ) → j < k → right p j ≡ true → j ≢ q
      not_q j jk r y = true≢false (sym r ∙ ap (right p) y ∙ away (omega arith))

      term : (j : ℕ) → j < k → j ≢ p → gives k right X (meets (meets v p) j) j ≡ 0
      term j jk n =
          elim (ℕ_discrete j q) [
            | yes y ↦ ap (λ x. gives k right X (meets (meets v p) x) x) y ∙ hq (omega arith)
            | no m ↦
                let u : ℕ = meets (meets v p) j in
                let ul : u < rows k = meets_lt k (meets v p) j (meets_lt k v p l pk) jk in
                gives_none k right X u j (columns u j ul jk n m)
                (λ t. beside_none k right X u j (λ j' l' _. row_none u ul (ih u ul (fewer_whites k p q v j jk n m t)) j' l'))
          ]

-- ---- a data column and the horizontal column lost

module _ (k : ℕ) (right : Rule) (law : Tournament k right) (X : Blocks) (p : ℕ) (pk : p < k)
    (columns : (i c : ℕ) → i < rows k → c < k → c ≢ p → X i c ≡ 0) where
  pub one_step : (v : ℕ) → v < rows k → ((u : ℕ) → u < rows k → whites k p k u < whites k p k v → X u p ≡ 0) → X v p ≡ butterfly k right X (meets v p)
  one_step v l ih =
      row_by_line k right law X p k pk (λ z. absurd (omega arith)) (λ i c il ck e _. columns i c il ck e) (λ u ul z. absurd (omega arith))
      v l ih (λ z. absurd (omega arith))

  module _ (lines : (n : ℕ) → n < rows k → butterfly k right X n ≡ 0) where
    one_by : (n v : ℕ) → v < rows k → whites k p k v < n → X v p ≡ 0
    one_by zero v l m = omega arith
    one_by (suc n) v l m = one_step v l (λ u ul lt. one_by n u ul (omega arith)) ∙ lines (meets v p) (meets_lt k v p l pk)

    pub one_none : (i : ℕ) → i < rows k → X i p ≡ 0
    one_none i l = one_by (suc (whites k p k i)) i l (omega arith)

-- ---- two data columns lost, p being a right neighbour of q

module _ (k : ℕ) (right : Rule) (law : Tournament k right) (X : Blocks) (p q : ℕ) (pk : p < k) (qk : q < k) (d : p ≢ q) (r : right q p ≡ true)
    (columns : (i c : ℕ) → i < rows k → c < k → c ≢ p → c ≢ q → X i c ≡ 0)
    (sums : (i : ℕ) → i < rows k → horizontal k X i ≡ 0) where
  pair : (u : ℕ) → u < rows k → X u p ≡ X u q
  unfolding horizontal
  pair u l = xor_zero_eq (X u p) (X u q) (sym (sum_two k (X u) p q pk qk d (λ j jk n m. columns u j l jk n m)) ∙ sums u l)

  -- the right neighbours of q hold in a row what p does
  beside_q : (u : ℕ) → u < rows k → beside k right X u q ≡ X u p
  unfolding beside only
  beside_q u l =
      sum_one k (λ j. only (right q j) (X u j)) p pk
      (λ j jk n. only_zero (right q j) (X u j) (λ t. columns u j l jk n (λ y. true≢false (sym t ∙ ap (right q) y ∙ law.not_own q qk))))
      ∙ ap (λ b. only b (X u p)) r

  -- what column q gives in a row: nothing if the place is dark, or if the row holds nothing
  gives_q : (u : ℕ) → u < rows k → (b : Bool) → dark u q ≡ b → (b ≡ false → X u p ≡ 0) → gives k right X u q ≡ 0
  unfolding gives only
  gives_q u l true e h =
      ap (λ b. bit_xor (X u q) (only b (beside k right X u q))) e ∙ ap (bit_xor (X u q)) (beside_q u l) ∙ xor_eq_zero (X u q) (X u p) (sym (pair u l))
  gives_q u l false e h = gives_none k right X u q (sym (pair u l) ∙ h refl) (λ t. absurd (true≢false (sym t ∙ e)))

  -- a row, where those of lower rank hold nothing
  pub two_step : (v : ℕ) → v < rows k → ((u : ℕ) → u < rows k → rank k p q u < rank k p q v → X u p ≡ 0) → X v p ≡ butterfly k right X (meets v p)
  two_step v l ih =
      row_by_line k right law X p q pk (λ _. law.one_way p q pk qk d ∙ ap not r) columns (λ u ul _ e. sym (pair u ul) ∙ e) v l
      (λ u ul lt. ih u ul (rank_whites k p q u v lt)) (λ _. gives_q u ul (dark u q) refl (λ e. ih u ul (rank_across k p q v d e)))
    where
      u : ℕ
      u = meets (meets v p) q

      ul : u < rows k
      ul = meets_lt k (meets v p) q (meets_lt k v p l pk) qk

  module _ (lines : (n : ℕ) → n < rows k → butterfly k right X n ≡ 0) where
    two_by : (n v : ℕ) → v < rows k → rank k p q v < n → X v p ≡ 0
    two_by zero v l m = omega arith
    two_by (suc n) v l m = two_step v l (λ u ul lt. two_by n u ul (omega arith)) ∙ lines (meets v p) (meets_lt k v p l pk)

    pub two_none : (i : ℕ) → i < rows k → (X i p ≡ 0) × (X i q ≡ 0)
    two_none i l =
        let e : X i p ≡ 0 = two_by (suc (rank k p q i)) i l (omega arith) in
        (e, sym (pair i l) ∙ e)
