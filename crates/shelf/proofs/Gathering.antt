-- Reads one after another, and the sums that they add up to.
use Rattle.std.proofs.Common.{◌≡◌, ℕ, ◌+◌, ◌%◌, ◌^◌, ◌<◌, ◌≤◌, Bool, true, false, cond, not, ◌&&◌, eqb, ltb, ◌≢◌, List, get_or, sym, refl, ap, ◌∙◌, subst, ap₂, arith, eqb-true}
use mathlib.Core.Path.{fun_ext}
use native.Mathlib.Decide.{ℕ_discrete, dec_lt}
use lib.Bits.{bit_xor, xor_zero_r}
use borrow.Author.Tests.{eq-true, ne_false, lt-true, le-false, eqb-false}
use Rattle.std.proofs.lemmas.Bool.Decides.{nat_tests}
use Rattle.tray.specs.Meaning.{Meaning, Wraps, tallied}
use Rattle.code.specs.Numbers.{only}
use Rattle.code.specs.Code.{Blocks, Rule, spot, rows, meets, horizontal, butterfly, gives}
use Rattle.code.proofs.Xor.{sum_none}
use Rattle.code.proofs.Linear.{difference, horizontal_same, butterfly_same, horizontal_xor, butterfly_xor}
use Rattle.code.proofs.Lost.{beside_none, gives_none}
use Rattle.law.specs.Service.{Columns}
use Rattle.law.specs.Holding.{held}
use Rattle.shelf.specs.Slots.{Filled, Plus, nothing, one}
use Rattle.shelf.specs.Blocks.{Ready}
use Rattle.shelf.specs.Reading.{Answers, Heard, after_reads, times, each_below, once_each, part, in_service, served, parity_read, is_read, Gathered}
use Rattle.shelf.proofs.Adding.{plus_none, plus_same, plus_plus, row_filled, line_filled}

-- the sums of data E, lane by lane, were added
abbrev pub Summed : ℕ → Rule → ℕ → List ℕ → (ℕ → Blocks) → List ℕ → Type 0
Summed k right size was E after = Plus k size was (λ b. horizontal k (E b)) (λ b. butterfly k right (E b)) after

-- ---- tallies

tallies : Meaning → (ℕ → ℕ) → Meaning
tallies m t = record { columns = m.columns; rows = m.rows; size = m.size; answers = m.answers; block = m.block; tally = t }

-- the same counts leave the same tray
pub reads_same : (m : Meaning) (f g : ℕ → ℕ) → ((c : ℕ) → f c ≡ g c) → after_reads m f ≡ after_reads m g
reads_same m f g e = ap (after_reads m) (fun_ext e)

pub reads_none : (m : Meaning) → Wraps m → m ≡ after_reads m (λ _. 0)
unfolding tallies
reads_none m w = ap (tallies m) (fun_ext (λ c. small (m.tally c) (w c)))
  where
    small : (t : ℕ) → t < 2 ^ 32 → t ≡ (t + 0) % 2 ^ 32
    small t l = omega arith

-- one more read
pub reads_more : (m : Meaning) (f : ℕ → ℕ) (j : ℕ) → tallied (after_reads m f) j ≡ after_reads m (λ c. f c + times j 1 c)
unfolding tallies
reads_more m f j = ap (tallies m) (fun_ext at)
  where
    at : (c : ℕ) → cond (eqb c j) (((m.tally j + f j) % 2 ^ 32 + 1) % 2 ^ 32) ((m.tally c + f c) % 2 ^ 32) ≡ (m.tally c + (f c + cond (eqb c j) 1 0)) % 2 ^ 32
    at c =
        elim (ℕ_discrete c j) [
          | yes e ↦
              ap (λ b. cond b (((m.tally j + f j) % 2 ^ 32 + 1) % 2 ^ 32) ((m.tally c + f c) % 2 ^ 32)) (sym (eq-true c j e))
              ∙ go (m.tally j) (f j)
              ∙ ap (λ x. (m.tally x + (f x + 1)) % 2 ^ 32) (sym e)
              ∙ ap (λ b. (m.tally c + (f c + cond b 1 0)) % 2 ^ 32) (eq-true c j e)
          | no n ↦
              ap (λ b. cond b (((m.tally j + f j) % 2 ^ 32 + 1) % 2 ^ 32) ((m.tally c + f c) % 2 ^ 32)) (sym (ne_false c j n))
              ∙ stay (m.tally c) (f c)
              ∙ ap (λ b. (m.tally c + (f c + cond b 1 0)) % 2 ^ 32) (ne_false c j n)
        ]
      where
        go : (t n : ℕ) → ((t + n) % 2 ^ 32 + 1) % 2 ^ 32 ≡ (t + (n + 1)) % 2 ^ 32
        go t n = omega arith

        stay : (t n : ℕ) → (t + n) % 2 ^ 32 ≡ (t + (n + 0)) % 2 ^ 32
        stay t n = omega arith

pub reads_reads : (m : Meaning) (f g : ℕ → ℕ) → after_reads (after_reads m f) g ≡ after_reads m (λ c. f c + g c)
unfolding tallies
reads_reads m f g = ap (tallies m) (fun_ext (λ c. go (m.tally c) (f c) (g c)))
  where
    go : (t n l : ℕ) → ((t + n) % 2 ^ 32 + l) % 2 ^ 32 ≡ (t + (n + l)) % 2 ^ 32
    go t n l = omega arith

times_none : (j c : ℕ) → times j 0 c ≡ 0
times_none j c = go (eqb c j)
  where
    go : (b : Bool) → cond {A = ℕ} b 0 0 ≡ 0
    go true = refl
    go false = refl

times_more : (j n c : ℕ) → times j n c + times j 1 c ≡ times j (n + 1) c
times_more j n c = go (eqb c j)
  where
    go : (b : Bool) → cond b n 0 + cond b 1 0 ≡ cond b (n + 1) 0
    go true = refl
    go false = refl

-- the reads of one column, one by one
pub column_none : (m : Meaning) (j : ℕ) → Wraps m → m ≡ after_reads m (times j 0)
column_none m j w = reads_none m w ∙ reads_same m (λ _. 0) (times j 0) (λ c. sym (times_none j c))

pub column_more : (m m' : Meaning) (j n : ℕ) → m' ≡ after_reads m (times j n) → tallied m' j ≡ after_reads m (times j (n + 1))
column_more m m' j n e = ap (λ x. tallied x j) e ∙ reads_more m (times j n) j ∙ reads_same m _ _ (times_more j n)

-- a tray that was only read still answers
pub ready_still : (k size : ℕ) (m m' : Meaning) (f : ℕ → ℕ) (j n : ℕ) → m' ≡ after_reads m f → Answers k size m j → n < rows k → Ready m' j n size
ready_still k size m m' f j n e a l =
    subst (λ x. Ready x j n size) (sym e)
    (record { column = omega (arith, a.shape.wide, a.column); row = omega (arith, a.shape.tall); long = sym a.shape.deep; answers = a.flag })

-- ---- sums

-- a line of nothing
pub line_none : (k : ℕ) (right : Rule) (E : Blocks) → ((i c : ℕ) → E i c ≡ 0) → (n : ℕ) → butterfly k right E n ≡ 0
unfolding butterfly
line_none k right E z n =
    sum_none k (λ j. gives k right E (meets n j) j)
    (λ j _. gives_none k right E (meets n j) j (z (meets n j) j) (λ _. beside_none k right E (meets n j) j (λ j' _ _. z (meets n j) j')))

module _ (k : ℕ) (right : Rule) (size : ℕ) (was : List ℕ) where
  -- nothing was added
  pub sums_none : (E : ℕ → Blocks) → ((b i c : ℕ) → E b i c ≡ 0) → Summed k right size was E was
  unfolding horizontal
  sums_none E z =
      plus_same k size was nothing nothing (λ b. horizontal k (E b)) (λ b. butterfly k right (E b)) was
      (λ b r _ _. sym (sum_none k (E b r) (λ j _. z b r j)))
      (λ b n _ _. sym (line_none k right (E b) (z b) n))
      (plus_none k size was)

  -- the sums of one data after those of another are the sums of both together
  pub sums_more : (E F G : ℕ → Blocks) (mid after : List ℕ)
      → ((b i c : ℕ) → b < size → i < rows k → c < k → bit_xor (E b i c) (F b i c) ≡ G b i c)
      → Summed k right size was E mid → Summed k right size mid F after → Summed k right size was G after
  sums_more E F G mid after e p q =
      plus_same k size was _ _ (λ b. horizontal k (G b)) (λ b. butterfly k right (G b)) after
      (λ b r bl rl. sym (horizontal_xor k right (E b) (F b) r) ∙ horizontal_same k right (difference (E b) (F b)) (G b) (λ i c il cl. e b i c bl il cl) r rl)
      (λ b n bl nl. sym (butterfly_xor k right (E b) (F b) n) ∙ butterfly_same k right (difference (E b) (F b)) (G b) (λ i c il cl. e b i c bl il cl) n nl)
      (plus_plus k size was (λ b. horizontal k (E b)) (λ b. butterfly k right (E b)) (λ b. horizontal k (F b)) (λ b. butterfly k right (F b)) mid after p q)

  -- data that are the same have the same sums
  pub sums_same : (E F : ℕ → Blocks) (after : List ℕ) → ((b i c : ℕ) → b < size → i < rows k → c < k → E b i c ≡ F b i c)
      → Summed k right size was E after → Summed k right size was F after
  sums_same E F after e p =
      plus_same k size was _ _ (λ b. horizontal k (F b)) (λ b. butterfly k right (F b)) after
      (λ b r bl rl. horizontal_same k right (E b) (F b) (λ i c il cl. e b i c bl il cl) r rl)
      (λ b n bl nl. butterfly_same k right (E b) (F b) (λ i c il cl. e b i c bl il cl) n nl) p

-- one more row of a column
pub part_none : (j i c : ℕ) (M : Blocks) → part j 0 M i c ≡ 0
unfolding only
part_none j i c M = ap (λ b. cond (eqb c j && b) (M i c) 0) (sym (le-false i 0 (omega arith))) ∙ go (eqb c j)
  where
    go : (b : Bool) → cond (b && false) (M i c) 0 ≡ 0
    go true = refl
    go false = refl

pub part_more : (j n i c : ℕ) (M : Blocks) → bit_xor (part j n M i c) (spot n j (M n j) i c) ≡ part j (n + 1) M i c
unfolding only spot
part_more j n i c M = go (eqb c j) refl (eqb i n) refl
  where
    go : (s : Bool) → eqb c j ≡ s → (t : Bool) → eqb i n ≡ t → bit_xor (only (s && ltb i n) (M i c)) (only (t && s) (M n j)) ≡ only (s && ltb i (n + 1)) (M i c)
    go false e false f = refl
    go false e true f = refl
    go true e true f =
        ap (λ b. bit_xor (cond b (M i c) 0) (M n j)) (sym (le-false i n (omega (arith, eqb-true i n f))))
        ∙ ap₂ M (sym (eqb-true i n f)) (sym (eqb-true c j e))
        ∙ ap (λ b. cond b (M i c) 0) (lt-true i (n + 1) (omega (arith, eqb-true i n f)))
    go true e false f =
        xor_zero_r (cond (ltb i n) (M i c) 0)
        ∙ elim (dec_lt i n) [
          | yes l ↦ ap (λ b. cond b (M i c) 0) (sym (lt-true i n l) ∙ lt-true i (n + 1) (omega arith))
          | no h ↦ ap (λ b. cond b (M i c) 0) (sym (le-false i n (omega arith)) ∙ le-false i (n + 1) (omega (arith, eqb-false i n f)))
        ]

-- the block of that row, as it was read
pub row_added : (k : ℕ) (right : Rule) (size : ℕ) (was mid after : List ℕ) (m : Meaning) (j n len : ℕ) (x : List ℕ) → len ≡ size → x ≡ m.block j n
    → Summed k right size was (λ b. part j n (held m b)) mid → Summed k right len mid (one n j x) after
    → Summed k right size was (λ b. part j (n + 1) (held m b)) after
row_added k right size was mid after m j n len x e f p q =
    sums_more k right size was (λ b. part j n (held m b)) (one n j x) (λ b. part j (n + 1) (held m b)) mid after
    (λ b i c _ _ _. ap (λ y. bit_xor (part j n (held m b) i c) (spot n j (get_or y b 0) i c)) f ∙ part_more j n i c (held m b))
    p (subst (λ s. Summed k right s mid (one n j x) after) e q)

-- ---- column by column

off : (b : Bool) → b && false ≡ false
off true = refl
off false = refl

module _ (out : Columns) where
  pub each_none : (n c : ℕ) → each_below out n 0 c ≡ 0
  each_none n c = ap (λ b. cond (not (out c) && b) n 0) (sym (le-false c 0 (omega arith))) ∙ ap (λ b. cond b n 0) (off (not (out c)))

  pub each_more : (n j c : ℕ) → each_below out n j c + times j (cond (out j) 0 n) c ≡ each_below out n (j + 1) c
  each_more n j c =
      elim (ℕ_discrete c j) [
        | yes e ↦
            ap₂ (λ x y. cond (not (out c) && x) n 0 + cond y (cond (out j) 0 n) 0) (sym (le-false c j (omega arith))) (sym (eq-true c j e))
            ∙ ap (λ x. cond x n 0 + cond (out j) 0 n) (off (not (out c))) ∙ turn (out j) ∙ ap (λ x. cond (not (out x) && true) n 0) (sym e)
            ∙ ap (λ x. cond (not (out c) && x) n 0) (lt-true c (j + 1) (omega arith))
        | no d ↦
            ap (λ y. each_below out n j c + cond y (cond (out j) 0 n) 0) (sym (ne_false c j d)) ∙ plus_zero (each_below out n j c)
            ∙ ap (λ x. cond (not (out c) && x) n 0) (still c j d)
      ]
    where
      turn : (b : Bool) → 0 + cond b 0 n ≡ cond (not b && true) n 0
      turn true = refl
      turn false = refl_plus n
        where
          refl_plus : (n : ℕ) → 0 + n ≡ n
          refl_plus n = omega arith

      plus_zero : (x : ℕ) → x + 0 ≡ x
      plus_zero x = omega arith

      still : (c j : ℕ) → c ≢ j → ltb c j ≡ ltb c (j + 1)
      still c j d = grind (arith, nat_tests)

  module _ (M : Blocks) (i c : ℕ) where
    pub served_none : served out 0 M i c ≡ 0
    unfolding only
    served_none = ap (λ b. cond (not (out c) && b) (M i c) 0) (sym (le-false c 0 (omega arith))) ∙ ap (λ b. cond b (M i c) 0) (off (not (out c)))

    pub served_more : (j : ℕ) → bit_xor (served out j M i c) (in_service out j M i c) ≡ served out (j + 1) M i c
    unfolding only
    served_more j =
        elim (ℕ_discrete c j) [
          | yes e ↦
              ap₂ (λ x y. bit_xor (cond (not (out c) && x) (M i c) 0) (cond (not (out c) && y) (M i c) 0)) (sym (le-false c j (omega arith))) (sym (eq-true c j e))
              ∙ ap (λ x. bit_xor (cond x (M i c) 0) (cond (not (out c) && true) (M i c) 0)) (off (not (out c)))
              ∙ ap (λ x. cond (not (out c) && x) (M i c) 0) (lt-true c (j + 1) (omega arith))
          | no d ↦
              ap (λ y. bit_xor (served out j M i c) (cond (not (out c) && y) (M i c) 0)) (sym (ne_false c j d))
              ∙ ap (λ x. bit_xor (served out j M i c) (cond x (M i c) 0)) (off (not (out c)))
              ∙ xor_zero_r (served out j M i c)
              ∙ ap (λ x. cond (not (out c) && x) (M i c) 0) (still c j d)
        ]
      where
        still : (c j : ℕ) → c ≢ j → ltb c j ≡ ltb c (j + 1)
        still c j d = grind (arith, nat_tests)

    -- a column in service is added as it is held, and one that is out not at all
    pub part_served : (j n : ℕ) → out j ≡ false → i < n → part j n M i c ≡ in_service out j M i c
    unfolding only
    part_served j n o l =
        ap (λ x. cond (eqb c j && x) (M i c) 0) (sym (lt-true i n l))
        ∙ ap (λ x. cond x (M i c) 0) (elim (ℕ_discrete c j) [
          | yes e ↦ ap (λ x. x && true) (sym (eq-true c j e)) ∙ ap₂ (λ x y. not x && y) (sym (ap out e ∙ o)) (eq-true c j e)
          | no d ↦ ap (λ x. x && true) (sym (ne_false c j d)) ∙ sym (off (not (out c))) ∙ ap (λ x. not (out c) && x) (ne_false c j d)
        ])

    pub none_served : (j : ℕ) → out j ≡ true → in_service out j M i c ≡ 0
    unfolding only
    none_served j o =
        ap (λ x. cond x (M i c) 0) (elim (ℕ_discrete c j) [
          | yes e ↦ ap (λ x. not x && eqb c j) (ap out e ∙ o)
          | no d ↦ ap (λ x. not (out c) && x) (sym (ne_false c j d)) ∙ off (not (out c))
        ])

pub heard_still : (k size : ℕ) (out : Columns) (m m' : Meaning) (f : ℕ → ℕ) → m' ≡ after_reads m f → Heard k size out m → Heard k size out m'
heard_still k size out m m' f e h = subst (Heard k size out) (sym e) (record { shape = record { wide = h.shape.wide; tall = h.shape.tall; deep = h.shape.deep }; answers = h.answers })

-- one more column, as it was read
pub column_added : (k : ℕ) (right : Rule) (size : ℕ) (was mid after : List ℕ) (m m' : Meaning) (f : ℕ → ℕ) (out : Columns) (j len : ℕ)
    → len ≡ size → m' ≡ after_reads m f → Summed k right size was (λ b. served out j (held m b)) mid → Summed k right len mid (λ b. in_service out j (held m' b)) after
    → Summed k right size was (λ b. served out (j + 1) (held m b)) after
column_added k right size was mid after m m' f out j len e h p q =
    sums_more k right size was (λ b. served out j (held m b)) (λ b. in_service out j (held m' b)) (λ b. served out (j + 1) (held m b)) mid after
    (λ b i c _ _ _. ap (λ x. bit_xor (served out j (held m b) i c) (in_service out j (held x b) i c)) h ∙ served_more out (held m b) i c j)
    p (subst (λ s. Summed k right s mid (λ b. in_service out j (held m' b)) after) e q)

-- ---- all that is read

-- by cases of the column: a data column, the horizontal one, the butterfly one, or none
pub once_each-cases : (k : ℕ) (out : Columns) (c : ℕ)
    → times k (cond (parity_read k out k) (rows k) 0) c + times (k + 1) (cond (parity_read k out (k + 1)) (rows k) 0) c + each_below out (rows k) k c ≡ once_each k out c
unfolding is_read
once_each-cases k out c =
    elim (dec_lt c k) [
      | yes l ↦ data_read k c (rows k) (not (out c)) (parity_read k out k) (parity_read k out (k + 1)) (parity_read k out c) l
      | no h ↦
          elim (ℕ_discrete c k) [
            | yes e ↦ ap (λ p. times k (cond (parity_read k out p) (rows k) 0) c + times (k + 1) (cond (parity_read k out (k + 1)) (rows k) 0) c + each_below out (rows k) k c) (sym e)
                ∙ first_read k c (rows k) (not (out c)) (parity_read k out (k + 1)) (parity_read k out c) e
            | no d ↦
                elim (ℕ_discrete c (k + 1)) [
                  | yes e ↦ ap (λ p. times k (cond (parity_read k out k) (rows k) 0) c + times (k + 1) (cond (parity_read k out p) (rows k) 0) c + each_below out (rows k) k c) (sym e)
                      ∙ second_read k c (rows k) (not (out c)) (parity_read k out k) (parity_read k out c) e
                  | no d' ↦ none_read k c (rows k) (not (out c)) (parity_read k out k) (parity_read k out (k + 1)) (parity_read k out c) (omega arith)
                ]
          ]
    ]
  where
    data_read : (k c n : ℕ) (o p q r : Bool) → c < k
        → cond (eqb c k) (cond p n 0) 0 + cond (eqb c (k + 1)) (cond q n 0) 0 + cond (o && ltb c k) n 0 ≡ cond (cond (ltb c k) o (ltb c (k + 2) && r)) n 0
    data_read k c n o p q r l = grind (arith, nat_tests)

    first_read : (k c n : ℕ) (o q r : Bool) → c ≡ k
        → cond (eqb c k) (cond r n 0) 0 + cond (eqb c (k + 1)) (cond q n 0) 0 + cond (o && ltb c k) n 0 ≡ cond (cond (ltb c k) o (ltb c (k + 2) && r)) n 0
    first_read k c n o q r e = grind (arith, nat_tests)

    second_read : (k c n : ℕ) (o p r : Bool) → c ≡ k + 1
        → cond (eqb c k) (cond p n 0) 0 + cond (eqb c (k + 1)) (cond r n 0) 0 + cond (o && ltb c k) n 0 ≡ cond (cond (ltb c k) o (ltb c (k + 2) && r)) n 0
    second_read k c n o p r e = grind (arith, nat_tests)

    none_read : (k c n : ℕ) (o p q r : Bool) → k + 2 ≤ c
        → cond (eqb c k) (cond p n 0) 0 + cond (eqb c (k + 1)) (cond q n 0) 0 + cond (o && ltb c k) n 0 ≡ cond (cond (ltb c k) o (ltb c (k + 2) && r)) n 0
    none_read k c n o p q r l = grind (arith, nat_tests)

-- the parities, one after the other, and then the data
module _ (k : ℕ) (right : Rule) (size : ℕ) (out : Columns) (m m₁ m₂ m₃ : Meaning) (was w₁ w₂ w₃ : List ℕ) (p q : Bool) (r : ℕ)
    (is-p : p ≡ parity_read k out k) (is-q : q ≡ parity_read k out (k + 1)) (is-r : r ≡ rows k)
    (e₁ : m₁ ≡ after_reads m (times k (cond p (rows k) 0))) (f₁ : Filled size was 0 (rows k) (λ i b. only p (held m b i k)) w₁)
    (e₂ : m₂ ≡ after_reads m₁ (times (k + 1) (cond q (rows k) 0))) (f₂ : Filled size w₁ r (rows k) (λ i b. only q (held m₁ b i (k + 1))) w₂)
    (e₃ : m₃ ≡ after_reads m₂ (each_below out (rows k) k)) (f₃ : Summed k right size w₂ (λ b. served out k (held m₂ b)) w₃) where
  both : m₂ ≡ after_reads m (λ c. times k (cond p (rows k) 0) c + times (k + 1) (cond q (rows k) 0) c)
  both = e₂ ∙ ap (λ x. after_reads x (times (k + 1) (cond q (rows k) 0))) e₁ ∙ reads_reads m (times k (cond p (rows k) 0)) (times (k + 1) (cond q (rows k) 0))

  pub gathered_reads : m₃ ≡ after_reads m (once_each k out)
  gathered_reads =
      e₃ ∙ ap (λ x. after_reads x (each_below out (rows k) k)) both
      ∙ reads_reads m (λ c. times k (cond p (rows k) 0) c + times (k + 1) (cond q (rows k) 0) c) (each_below out (rows k) k)
      ∙ reads_same m _ (once_each k out)
      (λ c. ap₂ (λ x y. times k (cond x (rows k) 0) c + times (k + 1) (cond y (rows k) 0) c + each_below out (rows k) k c) is-p is-q ∙ once_each-cases k out c)

  lines : Filled size w₁ (rows k) (rows k) (λ i b. only q (held m₁ b i (k + 1))) w₂
  lines = subst (λ x. Filled size w₁ x (rows k) (λ i b. only q (held m₁ b i (k + 1))) w₂) is-r f₂

  pub gathered_sums : Gathered k right size out m w₃
  gathered_sums =
      record {
        row = λ b i bl l. f₃.row b i bl l
            ∙ ap₂ (λ x y. bit_xor x (horizontal k (served out k (held y b)) i)) (row_filled size (rows k) was w₁ w₂ (λ i b. only p (held m b i k)) (λ i b. only q (held m₁ b i (k + 1))) f₁ lines b i bl l ∙ ap (λ x. only x (held m b i k)) is-p) both;
        line = λ b n bl l. f₃.line b n bl l
            ∙ ap₂ (λ x y. bit_xor x (butterfly k right (served out k (held y b)) n))
            (line_filled size (rows k) was w₁ w₂ (λ i b. only p (held m b i k)) (λ i b. only q (held m₁ b i (k + 1))) f₁ lines b n bl l ∙ ap₂ (λ x y. only x (held y b n (k + 1))) is-q e₁) both;
      }
