-- Any contents of k columns are those of some data: the lost columns are found by correcting them, rank after rank.
use Rattle.std.proofs.Common.{◌≡◌, ℕ, zero, suc, ◌+◌, ◌<◌, ◌≤◌, Bool, true, false, cond, not, ◌||◌, eqb, ◌≢◌, ◌⊎◌, sym, refl, ap, ◌∙◌, ap₂, inl, inr, arith}
use native.Mathlib.Decide.{ℕ_discrete, dec_lt}
use lib.Bits.{bit_xor, xor_comm, xor_assoc, xor_self, xor_zero_r}
use borrow.Author.Tests.{eq-true, ne_false, eqb-false}
use Rattle.code.specs.Numbers.{only, xorsum}
use Rattle.code.specs.Code.{Blocks, Rule, rows, dark, meets, horizontal, butterfly, value}
use Rattle.code.specs.Neighbours.{Tournament}
use Rattle.code.specs.Laws.{light, whites, rank}
use Rattle.code.proofs.Xor.{xor_zero_eq, xor_eq_zero, sum_same, sum_two, only_true, only_false}
use Rattle.code.proofs.Rows.{back, meets_lt}
use Rattle.code.proofs.Linear.{difference, value_data, value_horizontal, value_butterfly, horizontal_xor, butterfly_xor}
use Rattle.code.proofs.Count.{count_le}
use Rattle.code.proofs.Lost.{one_step, two_step}
use Rattle.law.specs.Hand.{others, by_row, with_row}
use Rattle.law.specs.Pinned.{SomeData}
use Rattle.law.proofs.Regained.{others_right}
use Rattle.law.proofs.Hand.{which}

cancel : (a b c : ℕ) → bit_xor a c ≡ bit_xor b c → a ≡ b
cancel a b c e =
    sym (xor_zero_r a) ∙ ap (bit_xor a) (sym (xor_self c)) ∙ sym (xor_assoc a c c) ∙ ap (λ x. bit_xor x c) e
    ∙ xor_assoc b c c ∙ ap (bit_xor b) (xor_self c) ∙ xor_zero_r b

-- ---- a data column filled by the rows' sums

module _ (k : ℕ) (M : Blocks) (j : ℕ) (jk : j < k) (i : ℕ) where
  with_row_own : with_row k M j i j ≡ by_row k M j i
  unfolding with_row
  with_row_own = ap (λ t. cond t (by_row k M j i) (M i j)) (sym (eq-true j j refl))

  with_row_other : (c : ℕ) → c ≢ j → with_row k M j i c ≡ M i c
  unfolding with_row
  with_row_other c n = ap (λ t. cond t (by_row k M j i) (M i c)) (sym (ne_false c j n))

  row_fills : horizontal k (with_row k M j) i ≡ M i k
  unfolding horizontal by_row others
  row_fills =
      cancel (xorsum k (with_row k M j i)) (M i k) (others k j (M i))
      (ap (bit_xor (xorsum k (with_row k M j i))) (sym same) ∙ others_right k j jk (with_row k M j i) (with_row k M j i) (λ _ _ _. refl) ∙ with_row_own)
    where
      each : (c : ℕ) (b : Bool) → eqb c j ≡ b → only (not (eqb c j)) (with_row k M j i c) ≡ only (not (eqb c j)) (M i c)
      each c true e = only_false (not (eqb c j)) (with_row k M j i c) (ap not e) ∙ sym (only_false (not (eqb c j)) (M i c) (ap not e))
      each c false e = ap (only (not (eqb c j))) (with_row_other c (eqb-false c j e))

      same : others k j (with_row k M j i) ≡ others k j (M i)
      same = sum_same k (λ c. only (not (eqb c j)) (with_row k M j i c)) (λ c. only (not (eqb c j)) (M i c)) (λ c l. each c (eqb c j) refl)

-- ---- the corrections

-- what line n lacks, by what its column holds
lacks : ℕ → Rule → Blocks → ℕ → Blocks → ℕ → ℕ
lacks k right M p D v = bit_xor (M (meets v p) (k + 1)) (butterfly k right D (meets v p))

-- columns p and q corrected in each row by what the line through (v, p) lacks
mended : ℕ → Rule → Blocks → ℕ → ℕ → Blocks → Blocks
mended k right M p q D v c = bit_xor (D v c) (only (eqb c p || eqb c q) (lacks k right M p D v))

times : ℕ → ℕ → Rule → Blocks → ℕ → ℕ → Blocks → Blocks
times zero k right M p q D = D
times (suc n) k right M p q D = mended k right M p q (times n k right M p q D)

module _ (k : ℕ) (right : Rule) (M : Blocks) (p q : ℕ) where
  change : (D : Blocks) (v c : ℕ) → difference D (mended k right M p q D) v c ≡ only (eqb c p || eqb c q) (lacks k right M p D v)
  unfolding mended
  change D v c =
      sym (xor_assoc (D v c) (D v c) (only (eqb c p || eqb c q) (lacks k right M p D v)))
      ∙ ap (λ x. bit_xor x (only (eqb c p || eqb c q) (lacks k right M p D v))) (xor_self (D v c))

  change_p : (D : Blocks) (v : ℕ) → difference D (mended k right M p q D) v p ≡ lacks k right M p D v
  change_p D v = change D v p ∙ only_true (eqb p p || eqb p q) (lacks k right M p D v) (ap (λ t. t || eqb p q) (sym (eq-true p p refl)))

  change_q : (D : Blocks) (v : ℕ) → difference D (mended k right M p q D) v q ≡ lacks k right M p D v
  change_q D v = change D v q ∙ only_true (eqb q p || eqb q q) (lacks k right M p D v) (ap (λ t. eqb q p || t) (sym (eq-true q q refl)) ∙ or_true (eqb q p))
    where
      or_true : (b : Bool) → b || true ≡ true
      or_true true = refl
      or_true false = refl

  change_other : (D : Blocks) (v c : ℕ) → c ≢ p → c ≢ q → difference D (mended k right M p q D) v c ≡ 0
  change_other D v c n m =
      change D v c ∙ only_false (eqb c p || eqb c q) (lacks k right M p D v) (ap₂ (λ s t. s || t) (sym (ne_false c p n)) (sym (ne_false c q m)))

  times_other : (n : ℕ) (D : Blocks) (v c : ℕ) → c ≢ p → c ≢ q → times n k right M p q D v c ≡ D v c
  unfolding times
  times_other zero D v c d e = refl
  times_other (suc n) D v c d e =
      sym (xor_zero_eq (times n k right M p q D v c) (mended k right M p q (times n k right M p q D) v c) (change_other (times n k right M p q D) v c d e))
      ∙ times_other n D v c d e

  -- a line that lacks just what the change gives it lacks nothing after it
  mends : (D : Blocks) (v : ℕ) → lacks k right M p D v ≡ butterfly k right (difference D (mended k right M p q D)) (meets v p)
      → lacks k right M p (mended k right M p q D) v ≡ 0
  unfolding lacks
  mends D v e =
      xor_eq_zero a c (cancel a c b (e ∙ butterfly_xor k right D (mended k right M p q D) (meets v p) ∙ xor_comm b c))
    where
      a : ℕ
      a = M (meets v p) (k + 1)

      b : ℕ
      b = butterfly k right D (meets v p)

      c : ℕ
      c = butterfly k right (mended k right M p q D) (meets v p)

  module _ (pk : p < k) (level : ℕ → ℕ) (most : ℕ) (below : (v : ℕ) → level v < most)
      (step : (D : Blocks) (v : ℕ) → v < rows k → ((u : ℕ) → u < rows k → level u < level v → difference D (mended k right M p q D) u p ≡ 0)
      → difference D (mended k right M p q D) v p ≡ butterfly k right (difference D (mended k right M p q D)) (meets v p)) where
    mends_by : (n : ℕ) (D : Blocks) (v : ℕ) → v < rows k → level v < n → lacks k right M p (times n k right M p q D) v ≡ 0
    unfolding times
    mends_by zero D v l m = omega arith
    mends_by (suc n) D v l m =
        mends (times n k right M p q D) v
        (sym (change_p (times n k right M p q D) v)
        ∙ step (times n k right M p q D) v l (λ u ul lt. change_p (times n k right M p q D) u ∙ mends_by n D u ul (omega arith)))

    -- in the end every line has what its column holds
    lines_right : (D : Blocks) (n : ℕ) → n < rows k → butterfly k right (times most k right M p q D) n ≡ M n (k + 1)
    unfolding lacks
    lines_right D n l =
        sym (xor_zero_eq (M n (k + 1)) (butterfly k right (times most k right M p q D) n)
        (sym (ap (λ x. bit_xor (M x (k + 1)) (butterfly k right (times most k right M p q D) x)) (back n p))
        ∙ mends_by most D (meets n p) (meets_lt k n p l pk) (below (meets n p))))

-- ---- the cases

-- the columns other than p and q hold what the rules give for D
abbrev Tells : ℕ → Rule → Blocks → ℕ → ℕ → Blocks → Type 0
Tells k right M p q D = (c r : ℕ) → c < k + 2 → c ≢ p → c ≢ q → r < rows k → value k right D c r ≡ M r c

module _ (k : ℕ) (right : Rule) (law : Tournament k right) (M : Blocks) where
  -- data told column by column
  by_columns : (p q : ℕ) (D : Blocks) → ((c r : ℕ) → c < k → c ≢ p → c ≢ q → r < rows k → D r c ≡ M r c)
      → (k ≢ p → k ≢ q → (r : ℕ) → r < rows k → horizontal k D r ≡ M r k)
      → (k + 1 ≢ p → k + 1 ≢ q → (n : ℕ) → n < rows k → butterfly k right D n ≡ M n (k + 1)) → Tells k right M p q D
  by_columns p q D columns sums lines c r cl n m rl = go (which k c cl)
    where
      go : (c < k) ⊎ ((c ≡ k) ⊎ (c ≡ k + 1)) → value k right D c r ≡ M r c
      go (inl ck) = value_data k right D c r ck ∙ columns c r ck n m rl
      go (inr (inl e)) = ap (λ x. value k right D x r) e ∙ value_horizontal k right D r ∙ sums (omega arith) (omega arith) r rl ∙ ap (M r) (sym e)
      go (inr (inr e)) = ap (λ x. value k right D x r) e ∙ value_butterfly k right D r ∙ lines (omega arith) (omega arith) r rl ∙ ap (M r) (sym e)

  module _ (p q : ℕ) (pk : p < k) (qk : q < k) (d : p ≢ q) (r : right q p ≡ true) where
    sums_none : (D : Blocks) (i : ℕ) → horizontal k (difference D (mended k right M p q D)) i ≡ 0
    unfolding horizontal
    sums_none D i =
        sum_two k (difference D (mended k right M p q D) i) p q pk qk d (λ c ck n m. change_other k right M p q D i c n m)
        ∙ ap₂ bit_xor (change_p k right M p q D i) (change_q k right M p q D i) ∙ xor_self (lacks k right M p D i)

    sums_kept : (n : ℕ) (D : Blocks) (i : ℕ) → horizontal k (times n k right M p q D) i ≡ horizontal k D i
    unfolding times
    sums_kept zero D i = refl
    sums_kept (suc n) D i =
        sym (xor_zero_eq (horizontal k (times n k right M p q D) i) (horizontal k (mended k right M p q (times n k right M p q D)) i)
        (sym (horizontal_xor k right (times n k right M p q D) (mended k right M p q (times n k right M p q D)) i) ∙ sums_none (times n k right M p q D) i))
        ∙ sums_kept n D i

    rank_below : (v : ℕ) → rank k p q v < k + k + 2
    unfolding rank whites
    rank_below v = omega (arith, count_le k (light p q v), at_most (dark v q))
      where
        at_most : (b : Bool) → cond {A = ℕ} b 1 0 ≤ 1
        at_most true = omega arith
        at_most false = omega arith

    two_data : (D : Blocks) × Tells k right M p q D
    two_data = (
      times (k + k + 2) k right M p q (with_row k M q),
      by_columns p q (times (k + k + 2) k right M p q (with_row k M q))
          (λ c r ck n m rl. times_other k right M p q (k + k + 2) (with_row k M q) r c n m ∙ with_row_other k M q qk r c m)
          (λ _ _ r rl. sums_kept (k + k + 2) (with_row k M q) r ∙ row_fills k M q qk r)
          (λ _ _ n nl. lines_right k right M p q pk (rank k p q) (k + k + 2) rank_below
          (λ D v l ih. two_step k right law (difference D (mended k right M p q D)) p q pk qk d r
          (λ i c _ _ n m. change_other k right M p q D i c n m) (λ i _. sums_none D i) v l ih)
          (with_row k M q) n nl),
    )

  -- a data column and the horizontal one
  data_and_sums : (p : ℕ) → p < k → (D : Blocks) × Tells k right M p k D
  unfolding whites
  data_and_sums p pk = (
    times (k + 1) k right M p k M,
    by_columns p k (times (k + 1) k right M p k M)
        (λ c r ck n m rl. times_other k right M p k (k + 1) M r c n m)
        (λ _ n r rl. absurd (n refl))
        (λ _ _ n nl. lines_right k right M p k pk (whites k p k) (k + 1) (λ v. omega (arith, count_le k (light p k v)))
        (λ D v l ih. one_step k right law (difference D (mended k right M p k D)) p pk
        (λ i c _ ck n. change_other k right M p k D i c n (omega arith)) v l ih)
        M n nl),
  )

  -- a data column and the butterfly one
  data_and_lines : (p : ℕ) → p < k → (D : Blocks) × Tells k right M p (k + 1) D
  data_and_lines p pk = (
    with_row k M p,
    by_columns p (k + 1) (with_row k M p) (λ c r ck n m rl. with_row_other k M p pk r c n) (λ _ _ r rl. row_fills k M p pk r) (λ _ n r rl. absurd (n refl)),
  )

  -- both parity columns
  both_parities : (D : Blocks) × Tells k right M k (k + 1) D
  both_parities = (M, by_columns k (k + 1) M (λ c r ck n m rl. refl) (λ n _ r rl. absurd (n refl)) (λ _ n r rl. absurd (n refl)))

  swapped : (p q : ℕ) → (D : Blocks) × Tells k right M p q D → (D : Blocks) × Tells k right M q p D
  swapped p q h = (h.0, λ c r cl n m rl. h.1 c r cl m n rl)

  -- p below q
  sorted : (p q : ℕ) → p < q → q < k + 2 → (D : Blocks) × Tells k right M p q D
  sorted p q lt ql = go (which k q ql)
    where
      pair : q < k → (b : Bool) → right q p ≡ b → (D : Blocks) × Tells k right M p q D
      pair qk true r = two_data p q (omega arith) qk (omega arith) r
      pair qk false r = swapped q p (two_data q p qk (omega arith) (omega arith) (law.one_way p q (omega arith) qk (omega arith) ∙ ap not r))

      at : (q' : ℕ) → q ≡ q' → (D : Blocks) × Tells k right M p q' D → (D : Blocks) × Tells k right M p q D
      at q' e h = (h.0, λ c r cl n m rl. h.1 c r cl n (λ y. m (y ∙ sym e)) rl)

      last : q ≡ k + 1 → Dec (p ≡ k) → (D : Blocks) × Tells k right M p q D
      last e (yes y) = at (k + 1) e (both_parities.0, λ c r cl n m rl. both_parities.1 c r cl (λ z. n (z ∙ sym y)) m rl)
      last e (no n) = at (k + 1) e (data_and_lines p (omega arith))

      go : (q < k) ⊎ ((q ≡ k) ⊎ (q ≡ k + 1)) → (D : Blocks) × Tells k right M p q D
      go (inl qk) = pair qk (right q p) refl
      go (inr (inl e)) = at k e (data_and_sums p (omega arith))
      go (inr (inr e)) = last e (ℕ_discrete p k)

pub some_data : SomeData
some_data k right law p q pl ql d M =
    elim (dec_lt p q) [ yes lt ↦ sorted k right law M p q lt ql | no n ↦ swapped k right law M q p (sorted k right law M q p (omega arith) pl) ]
