-- Reads as the growth of tallies, and how many reads a rebuild makes.
use Rattle.std.proofs.Common.{◌≡◌, ℕ, zero, suc, ◌+◌, ◌-◌, ◌*◌, ◌%◌, ◌^◌, ◌<◌, Bool, true, false, cond, not, ◌&&◌, ◌||◌, eqb, ltb, ◌≢◌, sym, refl, ap, ◌∙◌, ap₂, inl, inr, add-zero, suc-mul, zero-mul, add-one, arith}
use native.Mathlib.Decide.{ℕ_discrete, dec_lt}
use borrow.Author.Tests.{eq-true, ne_false, lt-true, le-false}
use Rattle.tray.specs.Meaning.{Meaning, tallied}
use Rattle.code.specs.Numbers.{count, any}
use Rattle.code.specs.Code.{Rule, rows}
use Rattle.law.specs.Service.{Columns, removed, AtMostTwo, Sole}
use Rattle.law.specs.Tallies.{reads, total, sources, ReadsWhole}
use Rattle.law.specs.Calls.{Rebuilt}
use Rattle.law.proofs.Bools.{not_so, find, removed_own, removed_other}

-- ---- reads

-- n reads of a column, told by its tally
pub reads_are : (m m' : Meaning) (c n : ℕ) → n < 2 ^ 32 → m'.tally c % 2 ^ 32 ≡ (m.tally c + n) % 2 ^ 32 → reads m m' c ≡ n
unfolding reads
reads_are m m' c n l e = omega arith

-- none
pub reads_none : (m m' : Meaning) (c : ℕ) → m'.tally c ≡ m.tally c → reads m m' c ≡ 0
reads_none m m' c e = reads_are m m' c 0 (omega arith) (omega arith)

-- one more
pub reads_next : (m m' m'' : Meaning) (c : ℕ) → m''.tally c ≡ (m'.tally c + 1) % 2 ^ 32 → reads m m'' c ≡ (reads m m' c + 1) % 2 ^ 32
unfolding reads
reads_next m m' m'' c e = omega arith

-- after one more read of column c
pub reads_tallied : (m m' : Meaning) (c x : ℕ) → reads m (tallied m' c) x ≡ cond (eqb x c) ((reads m m' x + 1) % 2 ^ 32) (reads m m' x)
unfolding reads
reads_tallied m m' c x =
    elim (ℕ_discrete x c) [
      | yes e ↦
          ap (λ t. (t + (2 ^ 32 - m.tally x % 2 ^ 32)) % 2 ^ 32)
          (ap (λ t. cond t ((m'.tally c + 1) % 2 ^ 32) (m'.tally x)) (sym (eq-true x c e)) ∙ ap (λ y. (m'.tally y + 1) % 2 ^ 32) (sym e))
          ∙ wraps (m'.tally x) (2 ^ 32 - m.tally x % 2 ^ 32)
          ∙ ap (λ t. cond t (((m'.tally x + (2 ^ 32 - m.tally x % 2 ^ 32)) % 2 ^ 32 + 1) % 2 ^ 32) ((m'.tally x + (2 ^ 32 - m.tally x % 2 ^ 32)) % 2 ^ 32)) (eq-true x c e)
      | no n ↦
          ap (λ t. (cond t ((m'.tally c + 1) % 2 ^ 32) (m'.tally x) + (2 ^ 32 - m.tally x % 2 ^ 32)) % 2 ^ 32) (sym (ne_false x c n))
          ∙ ap (λ t. cond t (((m'.tally x + (2 ^ 32 - m.tally x % 2 ^ 32)) % 2 ^ 32 + 1) % 2 ^ 32) ((m'.tally x + (2 ^ 32 - m.tally x % 2 ^ 32)) % 2 ^ 32)) (ne_false x c n)
    ]
  where
    wraps : (a d : ℕ) → ((a + 1) % 2 ^ 32 + d) % 2 ^ 32 ≡ ((a + d) % 2 ^ 32 + 1) % 2 ^ 32
    wraps a d = omega arith

-- ---- sums over the columns

-- the same number from those of some columns
total_those : (n w : ℕ) (test : ℕ → Bool) (f : ℕ → ℕ) → ((x : ℕ) → x < n → f x ≡ cond (test x) w 0) → total n f ≡ count n test * w
unfolding total count
total_those zero w test f h = sym (zero-mul w)
total_those (suc n) w test f h = go (test n) (total_those n w test f (λ x l. h x (omega arith))) (h n (omega arith))
  where
    go : (b : Bool) → total n f ≡ count n test * w → f n ≡ cond b w 0 → total n f + f n ≡ (count n test + cond b 1 0) * w
    go true ih e = ap₂ (λ a b. a + b) ih e ∙ sym (suc-mul (count n test) w) ∙ ap (λ a. a * w) (sym (add-one (count n test)))
    go false ih e = ap₂ (λ a b. a + b) ih e ∙ add-zero (count n test * w) ∙ ap (λ a. a * w) (sym (add-zero (count n test)))

-- all but one, and all but two, of the numbers below n
count_all : (n : ℕ) (test : ℕ → Bool) → ((x : ℕ) → x < n → test x ≡ true) → count n test ≡ n
unfolding count
count_all zero test h = refl
count_all (suc n) test h = omega (arith, count_all n test (λ x l. h x (omega arith)), ap (λ t. cond {A = ℕ} t 1 0) (h n (omega arith)))

count_but : (n a : ℕ) (test : ℕ → Bool) → a < n → test a ≡ false → ((x : ℕ) → x < n → x ≢ a → test x ≡ true) → count n test + 1 ≡ n
unfolding count
count_but zero a test l e h = omega arith
count_but (suc n) a test l e h =
    elim (ℕ_discrete a n) [
      | yes y ↦ omega (arith, count_all n test (λ x xl. h x (omega arith) (omega arith)), ap (λ t. cond {A = ℕ} t 1 0) (ap test (sym y) ∙ e))
      | no d ↦
          omega (arith, count_but n a test (omega arith) e (λ x xl. h x (omega arith)), ap (λ t. cond {A = ℕ} t 1 0) (h n (omega arith) (omega arith)))
    ]

count_but_two : (n a b : ℕ) (test : ℕ → Bool) → a < b → b < n → test a ≡ false → test b ≡ false
    → ((x : ℕ) → x < n → x ≢ a → x ≢ b → test x ≡ true) → count n test + 2 ≡ n
unfolding count
count_but_two zero a b test ab l e f h = omega arith
count_but_two (suc n) a b test ab l e f h =
    elim (ℕ_discrete b n) [
      | yes y ↦
          omega (arith, count_but n a test (omega arith) e (λ x xl xa. h x (omega arith) xa (omega arith)), ap (λ t. cond {A = ℕ} t 1 0) (ap test (sym y) ∙ f))
      | no d ↦
          omega (arith, count_but_two n a b test ab (omega arith) e f (λ x xl. h x (omega arith)), ap (λ t. cond {A = ℕ} t 1 0) (h n (omega arith) (omega arith) (omega arith)))
    ]

-- ---- the columns that a rebuild reads whole

any_at : (n : ℕ) (test : ℕ → Bool) (q : ℕ) → q < n → test q ≡ true → any n test ≡ true
unfolding any
any_at zero test q l e = absurd (omega arith)
any_at (suc n) test q l e =
    elim (ℕ_discrete q n) [
      | yes y ↦ ap (λ t. any n test || t) (ap test (sym y) ∙ e) ∙ or_true (any n test)
      | no d ↦ ap (λ t. t || test n) (any_at n test q (omega arith) e)
    ]
  where
    or_true : (b : Bool) → b || true ≡ true
    or_true true = refl
    or_true false = refl

any_none : (n : ℕ) (test : ℕ → Bool) → ((q : ℕ) → q < n → test q ≡ false) → any n test ≡ false
unfolding any
any_none zero test h = refl
any_none (suc n) test h = ap₂ (λ s t. s || t) (any_none n test (λ q l. h q (omega arith))) (h n (omega arith))

module _ (k : ℕ) (out : Columns) (c : ℕ) (two : AtMostTwo out) (cl : c < k + 2) (o : out c ≡ true) where
  source_out : (x : ℕ) → out x ≡ true → sources k out c x ≡ false
  unfolding sources
  source_out x e = ap (λ t. not t && (ltb x k || any (k + 2) (removed out c))) e

  source_with : (x : ℕ) (s t : Bool) → out x ≡ false → ltb x k ≡ s → any (k + 2) (removed out c) ≡ t → sources k out c x ≡ (s || t)
  unfolding sources
  source_with x s t e f g = ap (λ u. not u && (ltb x k || any (k + 2) (removed out c))) e ∙ ap₂ (λ a b. a || b) f g

  -- with another column out: all but these two
  with_another : (q : ℕ) → q < k + 2 → q ≢ c → out q ≡ true → count (k + 2) (sources k out c) ≡ k
  with_another q ql n f =
      elim (dec_lt c q) [
        | yes l ↦ omega (arith, count_but_two (k + 2) c q (sources k out c) l ql (source_out c o) (source_out q f) (λ x xl a b. rest x a b))
        | no g ↦ omega (arith, count_but_two (k + 2) q c (sources k out c) (omega arith) cl (source_out q f) (source_out c o) (λ x xl a b. rest x b a))
      ]
    where
      rest : (x : ℕ) → x ≢ c → x ≢ q → sources k out c x ≡ true
      rest x a b =
          source_with x (ltb x k) true (not_so (out x) (λ t. b (sym (two c q x o f t (λ y. n (sym y)) (λ y. a (sym y)))))) refl
          (any_at (k + 2) (removed out c) q ql (removed_other out c q n ∙ f))
          ∙ or_true (ltb x k)
        where
          or_true : (b : Bool) → b || true ≡ true
          or_true true = refl
          or_true false = refl

  -- a parity column that alone is out: the data columns
  parity_alone : (c < k → ⊥) → ((x : ℕ) → x < k + 2 → x ≢ c → out x ≡ false) → count (k + 2) (sources k out c) ≡ k
  parity_alone nk inn =
      omega (
        arith,
        count_but_two (k + 2) k (k + 1) (sources k out c) (omega arith) (omega arith) (parity k (omega arith) (omega arith)) (parity (k + 1) (omega arith) (omega arith))
            (λ x xl a b. source_with x true (any (k + 2) (removed out c)) (inn x xl (omega arith)) (sym (lt-true x k (omega arith))) refl),
      )
    where
      no_other : any (k + 2) (removed out c) ≡ false
      no_other = any_none (k + 2) (removed out c) (λ q ql. elim (ℕ_discrete q c) [ yes y ↦ ap (removed out c) y ∙ removed_own out c | no n ↦ removed_other out c q n ∙ inn q ql n ])

      parity : (x : ℕ) → x < k + 2 → (x < k → ⊥) → sources k out c x ≡ false
      parity x xl nx =
          elim (ℕ_discrete x c) [
            | yes y ↦ source_out x (ap out y ∙ o)
            | no n ↦ source_with x false false (inn x xl n) (sym (le-false x k (omega arith))) no_other
          ]

-- they are k in number
pub sources_are_k : (k : ℕ) (out : Columns) (c : ℕ) → ReadsWhole k out c → count (k + 2) (sources k out c) ≡ k
sources_are_k k out c h =
    elim (find (k + 2) out c) [
      | inl q ↦ with_another k out c h.two h.column h.was_out q.0 q.1 q.2 q.3
      | inr inn ↦ parity_alone k out c h.two h.column h.was_out (λ ck. h.other ck (record { itself = h.was_out; others = inn })) inn
    ]

-- ---- what a rebuild answers

module _ (k : ℕ) (right : Rule) (size : ℕ) (out : Columns) (m : Meaning) (c answer : ℕ) (out' : Columns) (m' : Meaning) (p : Rebuilt k right size out m c answer out' m') where
  -- a data column that alone is out
  pub sole_answer : c < k → Sole k out c → answer ≡ (k + 1) * 2 ^ (k - 2) % 2 ^ 32
  sole_answer ck sole =
      p.counted
      ∙ ap (λ n. n % 2 ^ 32)
      (total_those (k + 2) (2 ^ (k - 2)) (λ x. not (eqb x c)) (reads m m') (λ x xl. p.half ck sole x xl ∙ turned (eqb x c))
      ∙ ap (λ (n : ℕ). n * 2 ^ (k - 2)) all)
    where
      turned : (b : Bool) → cond b 0 (2 ^ (k - 2)) ≡ cond (not b) (2 ^ (k - 2)) 0
      turned true = refl
      turned false = refl

      all : count (k + 2) (λ x. not (eqb x c)) ≡ k + 1
      all = omega (arith, count_but (k + 2) c (λ x. not (eqb x c)) p.column (ap not (sym (eq-true c c refl))) (λ x xl n. ap not (sym (ne_false x c n))))

  -- any other column
  pub whole_answer : AtMostTwo out → (c < k → Sole k out c → ⊥) → answer ≡ k * rows k % 2 ^ 32
  whole_answer two other =
      p.counted
      ∙ ap (λ n. n % 2 ^ 32)
      (total_those (k + 2) (rows k) (sources k out c) (reads m m') (p.whole other)
      ∙ ap (λ (n : ℕ). n * rows k) (sources_are_k k out c (record { two = two; column = p.column; was_out = p.was_out; other = other })))
