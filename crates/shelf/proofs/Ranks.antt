-- The order in which rows are settled.
use Rattle.std.proofs.Common.{◌≡◌, ℕ, zero, suc, ◌+◌, ◌-◌, ◌*◌, ◌<◌, ◌≤◌, Bool, true, false, cond, not, ◌&&◌, ◌||◌, eqb, ltb, ◌≢◌, List, sym, refl, ap, ◌∙◌, ap₂, add-zero, add-suc, arith}
use native.Mathlib.Decide.{ℕ_discrete, dec_lt}
use borrow.Author.Tests.{eq-true, ne_false, lt-true, le-false}
use Rattle.std.proofs.lemmas.Bool.Decides.{nat_tests}
use Rattle.code.specs.Numbers.{count}
use Rattle.code.specs.Code.{Blocks, Rule, rows, dark}
use Rattle.code.specs.Neighbours.{Tournament, distance, near, published}
use Rattle.code.specs.Laws.{light, whites, rank}
use Rattle.code.specs.Widths.{is_width}
use Rattle.code.proofs.Count.{count_same, count_le}
use Rattle.code.proofs.Rows.{dark_above}
use Rattle.code.proofs.Limits.{a_width}
use Rattle.shelf.specs.Solving.{Settled, Solving, before, Pair}
use Rattle.shelf.proofs.Settling.{solving_same, settle_step}

-- ---- before

module _ (k p q : ℕ) where
  -- after the last row of a rank come the rows of the next
  pub rank_done : (r n u : ℕ) → u < n → before k p q r n u ≡ before k p q (r + 1) 0 u
  rank_done r n u l = go (rank k p q u)
    where
      go : (x : ℕ) → ltb x r || (eqb x r && ltb u n) ≡ ltb x (r + 1) || (eqb x (r + 1) && ltb u 0)
      go x = grind (arith, nat_tests)

  -- a row of this rank is the next
  pub taken_next : (r v u : ℕ) → rank k p q v ≡ r → (before k p q r v u || eqb u v) ≡ before k p q r (v + 1) u
  taken_next r v u e =
      elim (ℕ_discrete u v) [
        | yes f ↦ here (rank k p q u) (ap (rank k p q) f ∙ e) f
        | no n ↦ there (rank k p q u) n
      ]
    where
      here : (x : ℕ) → x ≡ r → u ≡ v → (ltb x r || (eqb x r && ltb u v)) || eqb u v ≡ ltb x r || (eqb x r && ltb u (v + 1))
      here x f g = grind (arith, nat_tests)

      there : (x : ℕ) → u ≢ v → (ltb x r || (eqb x r && ltb u v)) || eqb u v ≡ ltb x r || (eqb x r && ltb u (v + 1))
      there x n = grind (arith, nat_tests)

  pub not_before : (r v : ℕ) → rank k p q v ≡ r → before k p q r v v ≡ false
  not_before r v e = go (rank k p q v) e
    where
      go : (x : ℕ) → x ≡ r → ltb x r || (eqb x r && ltb v v) ≡ false
      go x f = grind (arith, nat_tests)

  pub lower_before : (r v u : ℕ) → rank k p q v ≡ r → rank k p q u < rank k p q v → before k p q r v u ≡ true
  lower_before r v u e l = go (rank k p q u) (omega arith)
    where
      go : (x : ℕ) → x < r → ltb x r || (eqb x r && ltb u v) ≡ true
      go x f = grind (arith, nat_tests)

  pub before_closed : (r v u w : ℕ) → before k p q r v u ≡ true → rank k p q w < rank k p q u → before k p q r v w ≡ true
  before_closed r v u w e l = go (rank k p q u) (rank k p q w) e l
    where
      go : (x y : ℕ) → ltb x r || (eqb x r && ltb u v) ≡ true → y < x → ltb y r || (eqb y r && ltb w v) ≡ true
      go x y e l = grind (arith, nat_tests)

  -- all ranks are below 2 k + 2
  pub all_before : (u : ℕ) → before k p q (2 * k + 2) 0 u ≡ true
  unfolding rank whites
  all_before u = go (rank k p q u) (omega (arith, count_le k (light p q u), at_most (dark u q)))
    where
      at_most : (b : Bool) → cond {A = ℕ} b 1 0 ≤ 1
      at_most true = omega arith
      at_most false = omega arith

      go : (x : ℕ) → x < 2 * k + 2 → ltb x (2 * k + 2) || (eqb x (2 * k + 2) && ltb u 0) ≡ true
      go x l = grind (arith, nat_tests)

-- ---- the steps

module _ (k : ℕ) (right : Rule) (law : Tournament k right) (none_right : (t : ℕ) → right t k ≡ false) (p q : ℕ) (pair : Pair k right p q) (size : ℕ) (D : ℕ → Blocks) where
  pub settle_next : (r v : ℕ) → v < rows k → rank k p q v ≡ r → (was after : List ℕ) → Settled k right size p q v was after
      → Solving k right size p q D (before k p q r v) was → Solving k right size p q D (before k p q r (v + 1)) after
  settle_next r v vl e was after s old =
      solving_same k right law none_right p q pair size D (λ u. before k p q r v u || eqb u v) (before k p q r (v + 1)) after (λ u _. taken_next k p q r v u e)
      (settle_step k right law none_right p q pair size D (before k p q r v) v vl (not_before k p q r v e) (λ u _ l. lower_before k p q r v u e l)
      (λ u w _ _ t l. before_closed k p q r v u w t l) was after s old)

  pub next_rank : (r n : ℕ) → n ≡ rows k → (was : List ℕ) → Solving k right size p q D (before k p q r n) was → Solving k right size p q D (before k p q (r + 1) 0) was
  next_rank r n e was old = solving_same k right law none_right p q pair size D (before k p q r n) (before k p q (r + 1) 0) was (λ u l. rank_done k p q r n u (omega arith)) old

  pub last_rank : (was : List ℕ) → Solving k right size p q D (before k p q (2 * k + 2) 0) was → Solving k right size p q D (λ _. true) was
  last_rank was old = solving_same k right law none_right p q pair size D (before k p q (2 * k + 2) 0) (λ _. true) was (λ u _. all_before k p q u) old

-- ---- the white places of a row, counted

-- no more where no number passes
count_none : (k n : ℕ) (f : ℕ → Bool) → ((j : ℕ) → k ≤ j → f j ≡ false) → count (k + n) f ≡ count k f
unfolding count
count_none k zero f h = ap (λ x. count x f) (add-zero k)
count_none k (suc n) f h =
    ap (λ x. count x f) (add-suc k n) ∙ ap₂ (λ a b. a + cond b 1 0) (count_none k n f h) (h (k + n) (omega arith)) ∙ add-zero (count k f)

-- without the number p
count_but : (k : ℕ) (f : ℕ → Bool) (p : ℕ) → count k f ≡ count k (λ i. f i && not (eqb i p)) + cond (ltb p k && f p) 1 0
unfolding count
count_but zero f p = omega (arith, ap (λ b. cond {A = ℕ} (b && f p) 1 0) (le-false p 0 (omega arith)))
count_but (suc k) f p =
    let ih = count_but k f p in
    elim (ℕ_discrete p k) [
      | yes e ↦
          let e₁ : cond {A = ℕ} (ltb p k && f p) 1 0 ≡ 0 = ap (λ b. cond {A = ℕ} (b && f p) 1 0) (sym (le-false p k (omega arith))) in
          let e₂ : cond {A = ℕ} (f k && not (eqb k p)) 1 0 ≡ 0 = ap (λ b. cond {A = ℕ} (f k && not b) 1 0) (sym (eq-true k p (sym e))) ∙ off (f k) in
          let e₃ : cond {A = ℕ} (ltb p (suc k) && f p) 1 0 ≡ cond {A = ℕ} (f k) 1 0 = ap₂ (λ b x. cond {A = ℕ} (b && f x) 1 0) (sym (lt-true p (suc k) (omega arith))) e in
          omega arith
      | no n ↦
          let e₂ : cond {A = ℕ} (f k && not (eqb k p)) 1 0 ≡ cond {A = ℕ} (f k) 1 0 = ap (λ b. cond {A = ℕ} (f k && not b) 1 0) (sym (ne_false k p (λ x. n (sym x)))) ∙ on (f k) in
          let e₃ : cond {A = ℕ} (ltb p (suc k) && f p) 1 0 ≡ cond {A = ℕ} (ltb p k && f p) 1 0 = ap (λ b. cond {A = ℕ} (b && f p) 1 0) (still p k n) in
          omega arith
    ]
  where
    off : (b : Bool) → cond {A = ℕ} (b && false) 1 0 ≡ 0
    off true = refl
    off false = refl

    on : (b : Bool) → cond {A = ℕ} (b && true) 1 0 ≡ cond {A = ℕ} b 1 0
    on true = refl
    on false = refl

    still : (p k : ℕ) → p ≢ k → ltb p (suc k) ≡ ltb p k
    still p k n = grind (arith, nat_tests)

-- the white places of a row are those outside p and q, and those two
pub white_parts : (k : ℕ) (right : Rule) (p q v : ℕ) → is_width k ≡ true → Pair k right p q → v < rows k
    → whites k p q v + (cond (dark v p) 0 1 + cond (dark v q) 0 1) ≡ count 33 (λ j. not (dark v j))
unfolding whites light rows
white_parts k right p q v w pair l =
    let wd = a_width k w in
    let W : ℕ → Bool = λ i. not (dark v i) in
    let none : (j : ℕ) → k ≤ j → W j ≡ false = λ j kl. ap not (dark_above (k - 1) v j l (omega arith)) in
    let all : count 33 W ≡ count k W = ap (λ x. count x W) (split k wd.high) ∙ count_none k (33 - k) W none in
    let one = count_but k W p in
    let two = count_but k (λ i. W i && not (eqb i p)) q in
    let is : count k (λ i. (W i && not (eqb i p)) && not (eqb i q)) ≡ whites k p q v = count_same k _ _ (λ i _. regroup (W i) (not (eqb i p)) (not (eqb i q))) in
    let at_p : cond {A = ℕ} (ltb p k && W p) 1 0 ≡ cond {A = ℕ} (dark v p) 0 1 = ap (λ b. cond {A = ℕ} (b && W p) 1 0) (sym (lt-true p k pair.first)) ∙ flip (dark v p) in
    let at_q : cond {A = ℕ} (ltb q k && (W q && not (eqb q p))) 1 0 ≡ cond {A = ℕ} (dark v q) 0 1 =
    ap (λ b. cond {A = ℕ} (ltb q k && (W q && not b)) 1 0) (sym (ne_false q p (λ e. pair.apart (sym e)))) ∙ elim (dec_lt q k) [
      | yes ql ↦ ap (λ b. cond {A = ℕ} (b && (not (dark v q) && true)) 1 0) (sym (lt-true q k ql)) ∙ flip₂ (dark v q)
      | no h ↦ ap (λ b. cond {A = ℕ} (b && (not (dark v q) && true)) 1 0) (sym (le-false q k (omega arith))) ∙ ap (λ b. cond {A = ℕ} b 0 1) (sym (dark_above (k - 1) v q l (omega arith)))
    ] in
    omega arith
  where
    split : (k : ℕ) → k ≤ 11 → 33 ≡ k + (33 - k)
    split k l = omega arith

    regroup : (a b c : Bool) → (a && b) && c ≡ a && b && c
    regroup true b c = refl
    regroup false b c = refl

    flip : (b : Bool) → cond {A = ℕ} (true && not b) 1 0 ≡ cond {A = ℕ} b 0 1
    flip true = refl
    flip false = refl

    flip₂ : (b : Bool) → cond {A = ℕ} (true && (not b && true)) 1 0 ≡ cond {A = ℕ} b 0 1
    flip₂ true = refl
    flip₂ false = refl

-- a row's rank, from how many of its places are white
pub rank_is : (k p q v : ℕ) → rank k p q v ≡ 2 * whites k p q v + (1 - cond (dark v q) 0 1)
unfolding rank
rank_is k p q v = go (whites k p q v) (dark v q)
  where
    go : (n : ℕ) (b : Bool) → n + n + cond b 1 0 ≡ 2 * n + (1 - cond b 0 1)
    go n true = omega arith
    go n false = omega arith

pub few_whites : (v : ℕ) → count 33 (λ j. not (dark v j)) ≤ 33
few_whites v = count_le 33 (λ j. not (dark v j))

-- column k is no right neighbour
pub no_right : (k t : ℕ) → published k t k ≡ false
unfolding published
no_right k t = ap (λ b. (ltb t k && b) && near k (distance k t k)) (sym (le-false k k (omega arith))) ∙ off (ltb t k) (near k (distance k t k))
  where
    off : (a b : Bool) → (a && false) && b ≡ false
    off true b = refl
    off false b = refl
