-- A column that was found and written is rebuilt.
use Rattle.std.proofs.Common.{◌≡◌, ℕ, ◌+◌, ◌-◌, ◌*◌, ◌%◌, ◌^◌, ◌<◌, ◌≤◌, Bool, true, false, cond, not, ◌&&◌, ◌||◌, eqb, ltb, ◌≢◌, List, length, get_or, Ok, sym, refl, ap, ◌∙◌, subst, ap₂, true≢false, arith, eqb-true}
use native.Mathlib.Decide.{ℕ_discrete, dec_lt}
use borrow.Author.Tests.{eq-true, ne_false, lt-true, le-false}
use Rattle.std.proofs.lemmas.Bool.Decides.{nat_tests}
use Rattle.tray.specs.Meaning.{Meaning, Sized}
use Rattle.code.specs.Code.{Rule, rows, dark, meets, value}
use Rattle.code.specs.Neighbours.{Tournament, published}
use Rattle.code.specs.Laws.{lane}
use Rattle.code.specs.Widths.{is_width}
use Rattle.code.proofs.Limits.{law_of_width, few_rows}
use Rattle.code.proofs.Rows.{meets_lt}
use Rattle.code.proofs.Put.{any_none}
use Rattle.code.proofs.Listed.{any_same}
use Rattle.code.proofs.Linear.{value_data}
use Rattle.law.specs.Service.{Columns, removed, Sole}
use Rattle.law.specs.Holding.{Data, Whole, held, Fits, Shaped}
use Rattle.law.specs.Hand.{AtHand, Bytes, regained}
use Rattle.law.specs.Tallies.{reads, total, sources}
use Rattle.law.specs.Calls.{Rebuilt}
use Rattle.law.proofs.Bools.{removed_own}
use Rattle.law.proofs.ForCode.{hand_served, hand_sole, hand_solved}
use Rattle.law.proofs.Hand.{served_right}
use Rattle.law.proofs.Pinned.{some_blocks}
use Rattle.law.proofs.Tallies.{reads_are, sole_answer, whole_answer}
use Rattle.shelf.specs.declared.roster.missing.Missing.{Missing}
use Rattle.shelf.specs.declared.roster.missing.Missing.TheVariants.{Nothing, One, Two}
use Rattle.shelf.specs.declared.rebuild.Whereabouts.{Whereabouts}
use Rattle.shelf.specs.declared.rebuild.Whereabouts.TheVariants.{Alone, ByRows}
use Rattle.shelf.specs.Missing.{is_out, are_columns, keeps}
use Rattle.shelf.specs.Rosters.{Rostered, out_of, back_in}
use Rattle.shelf.specs.Checks.{rebuilding}
use Rattle.shelf.specs.Slots.{slot, Room}
use Rattle.shelf.specs.Reading.{Heard, after_reads, is_read, once_each}
use Rattle.shelf.specs.Recovering.{is_sole_data, slot_for, Found}
use Rattle.shelf.specs.Regaining.{sole_slot, half_of}
use Rattle.shelf.specs.Rebuilding.{slot_of, pair_of, Located, slot_block, written, reads_for}
use Rattle.shelf.proofs.Outs.{any_one, any_two_of}
use Rattle.shelf.proofs.Adding.{has_slot}
use Rattle.shelf.proofs.Limits.{are_columns-kept}
use Rattle.shelf.proofs.Checked.{rebuildable}
use Rattle.shelf.proofs.Missing.{at_most_two, removed_out, out_is_column}
use Rattle.shelf.proofs.Rebuilding.{slot_long, slot_byte, half_rows, few_reads, fewer_reads}

clash : {A : Type 0} (b : Bool) → b ≡ true → b ≡ false → A
clash b t f = absurd (true≢false (sym t ∙ f))

-- ---- which column

-- a data column that alone is out
pub sole_data : (k : ℕ) (out : Missing) (c : ℕ) → is_sole_data k out ≡ true → is_out out c ≡ true → (c < k) × Sole k (is_out out) c
sole_data k Nothing c s o = absurd (true≢false (sym s))
sole_data k (One a) c s o = (grind (arith, nat_tests), record { itself = o; others = λ x xl n. grind (arith, nat_tests) })
sole_data k (Two a b) c s o = absurd (true≢false (sym s))

-- any other
pub not_sole : (k : ℕ) (out : Missing) (c : ℕ) → are_columns k out ≡ true → is_sole_data k out ≡ false → is_out out c ≡ true → c < k → Sole k (is_out out) c → ⊥
not_sole k Nothing c cols s o l h = true≢false (sym o)
not_sole k (One a) c cols s o l h = grind (arith, nat_tests)
not_sole k (Two a b) c cols s o l h =
    let al : a < k + 2 = grind (arith, nat_tests) in
    let bl : b < k + 2 = grind (arith, nat_tests) in
    let d : a ≢ b = λ e. grind (arith, nat_tests) in
    elim (ℕ_discrete c a) [
      | yes e ↦ let z = h.others b bl (λ q. d (sym e ∙ sym q)) in grind (arith, nat_tests)
      | no n ↦ let z = h.others a al (λ q. n (sym q)) in grind (arith, nat_tests)
    ]

-- ---- what is read

-- where two columns are missing, all others that are needed are read
read_two : (k a b q c x : ℕ) → a < k + 2 → b < k + 2 → a ≢ b → q < k + 2 → ((t : ℕ) → removed (is_out (Two a b)) c t ≡ eqb q t) → x < k + 2
    → is_read k (is_out (Two a b)) x ≡ sources k (is_out (Two a b)) c x
unfolding is_read sources
read_two k a b q c x al bl d ql h xl =
    ap (λ t. cond (ltb x k) (not (is_out (Two a b) x)) (ltb x (k + 2) && (t && not (is_out (Two a b) x)))) (any_two_of k a b)
    ∙ same k a b x al bl d xl
    ∙ ap (λ t. not (is_out (Two a b) x) && (ltb x k || t))
    (sym (any_same (k + 2) (removed (is_out (Two a b)) c) (λ t. eqb q t) h ∙ any_one (k + 2) q ∙ sym (lt-true q (k + 2) ql)))
  where
    same : (k a b x : ℕ) → a < k + 2 → b < k + 2 → a ≢ b → x < k + 2
        → cond (ltb x k) (not (eqb a x || eqb b x)) (ltb x (k + 2) && ((ltb a k || ltb b k) && not (eqb a x || eqb b x))) ≡ not (eqb a x || eqb b x) && (ltb x k || true)
    same k a b x al bl d xl = grind (arith, nat_tests)

-- where a parity column alone is missing, the data are
read_one : (k a x : ℕ) → k ≤ a → a < k + 2 → x < k + 2 → is_read k (is_out (Two k (k + 1))) x ≡ sources k (is_out (One a)) a x
unfolding is_read sources
read_one k a x low high xl =
    ap (λ t. cond (ltb x k) (not (is_out (Two k (k + 1)) x)) (ltb x (k + 2) && (t && not (is_out (Two k (k + 1)) x)))) (any_two_of k k (k + 1))
    ∙ same k a x low high xl
    ∙ ap (λ t. not (is_out (One a) x) && (ltb x k || t)) (sym (any_none (k + 2) (removed (is_out (One a)) a) (λ t _. none t)))
  where
    same : (k a x : ℕ) → k ≤ a → a < k + 2 → x < k + 2
        → cond (ltb x k) (not (eqb k x || eqb (k + 1) x)) (ltb x (k + 2) && ((ltb k k || ltb (k + 1) k) && not (eqb k x || eqb (k + 1) x)))
        ≡ not (eqb a x) && (ltb x k || false)
    same k a x low high xl = grind (arith, nat_tests)

    none : (t : ℕ) → eqb a t && not (eqb t a) ≡ false
    none t = grind (arith, nat_tests)

-- ---- where the rows lie

sole_within : (k c i : ℕ) → c < k → i < rows k → sole_slot k c i < rows k + rows k
sole_within k c i l il = go (dark i c)
  where
    go : (b : Bool) → cond b i (rows k + meets i c) < rows k + rows k
    go true = omega arith
    go false = omega (arith, meets_lt k i c il l)

for_within : (k by c i : ℕ) → i < rows k → slot_for k by c i < rows k + rows k
unfolding slot_for
for_within k by c i il = elim (dec_lt c k) [
  | yes l ↦ go (eqb c by) (ltb c k) (meets_lt k i c il l)
  | no n ↦ subst (λ t. cond (eqb c by) i (rows k + cond t (meets i c) i) < rows k + rows k) (le-false c k (omega arith)) (here (eqb c by))
]
  where
    here : (s : Bool) → cond s i (rows k + i) < rows k + rows k
    here true = omega arith
    here false = omega arith

    go : (s t : Bool) → meets i c < rows k → cond s i (rows k + cond t (meets i c) i) < rows k + rows k
    go true t h = omega arith
    go false true h = omega arith
    go false false h = omega arith

-- ---- a tray that was read, and then one of its columns written

module _ (k : ℕ) (right : Rule) (size : ℕ) (out : Columns) (m m' : Meaning) (c : ℕ) (cl : c < k + 2) (o : out c ≡ true)
    (f : ℕ → ℕ) (few : (x : ℕ) → f x < 2 ^ 32) (g : ℕ → List ℕ) (e : m' ≡ written (after_reads m f) c (rows k) g) where
  own : (r : ℕ) → r < rows k → m'.block c r ≡ g r
  own r l = ap (λ t. t.block c r) e ∙ ap₂ (λ s t. cond (s && t) (g r) (m.block c r)) (sym (eq-true c c refl)) (sym (lt-true r (rows k) l))

  other : (x r : ℕ) → x ≢ c → m'.block x r ≡ m.block x r
  other x r n = ap (λ t. t.block x r) e ∙ ap (λ s. cond (s && ltb r (rows k)) (g r) (m.block x r)) (sym (ne_false x c n))

  read : (x : ℕ) → reads m m' x ≡ f x
  read x = reads_are m m' x (f x) (few x) (ap (λ t. t.tally x % 2 ^ 32) e ∙ twice (m.tally x + f x))
    where
      twice : (n : ℕ) → n % 2 ^ 32 % 2 ^ 32 ≡ n % 2 ^ 32
      twice n = omega arith

  pub assembled : (D : Data) → ((i j : ℕ) → i < rows k → j < k → AtHand k right size out m i j (D i j))
      → ((r b : ℕ) → r < rows k → b < size → get_or (g r) b 0 ≡ value k right (lane D b) c r)
      → (c < k → Sole k out c → (x : ℕ) → x < k + 2 → f x ≡ cond (eqb x c) 0 (2 ^ (k - 2)))
      → ((c < k → Sole k out c → ⊥) → (x : ℕ) → x < k + 2 → f x ≡ cond (sources k out c x) (rows k) 0)
      → Rebuilt k right size out m c (total (k + 2) (reads m m') % 2 ^ 32) (removed out c) m'
  assembled D hand fill half whole =
      record {
        column = cl;
        was_out = o;
        D = D;
        at_hand = hand;
        filled = λ r b rl bl. ap (λ v. get_or v b 0) (own r rl) ∙ fill r b rl bl;
        rest = λ x r _ _ n. other x r n;
        frame = record {
          shape = record { wide = ap (λ t. t.columns) e; tall = ap (λ t. t.rows) e; deep = ap (λ t. t.size) e };
          answers = ap (λ t. t.answers) e;
        };
        after = λ x. refl;
        counted = refl;
        half = λ ck s x xl. read x ∙ half ck s x xl;
        whole = λ n x xl. read x ∙ whole n x xl;
      }

-- ---- a data column that alone is out

module _ (k : ℕ) (right : Rule) (size : ℕ) (out : Columns) (m m' : Meaning) (work : List ℕ) (room : Room k size work) (c : ℕ) (ck : c < k) (sole : Sole k out c) where
  g : ℕ → List ℕ
  g i = slot_block size work (sole_slot k c i)

  D : Data
  D i j = cond (eqb j c) (g i) (m.block j i)

  D_own : (i : ℕ) → D i c ≡ g i
  unfolding D
  D_own i = ap (λ t. cond t (g i) (m.block c i)) (sym (eq-true c c refl))

  D_other : (i j : ℕ) → j ≢ c → D i j ≡ m.block j i
  unfolding D
  D_other i j n = ap (λ t. cond t (g i) (m.block j i)) (sym (ne_false j c n))

  long_enough : (i : ℕ) → i < rows k → (sole_slot k c i + 1) * size ≤ length work
  long_enough i l = has_slot k size work room (sole_slot k c i) (sole_within k c i ck l)

  hand : ((i b : ℕ) → i < rows k → b < size → slot size work (sole_slot k c i) b ≡ regained k right (held m b) c i)
      → (i j : ℕ) → i < rows k → j < k → AtHand k right size out m i j (D i j)
  unfolding g
  hand found i j il jk =
      elim (ℕ_discrete j c) [
        | yes y ↦
            subst (λ x. AtHand k right size out m i x (D i x)) (sym y)
            (hand_sole k right size out m i c (D i c) sole
            (subst (λ v. Bytes size v (λ b. regained k right (held m b) c i)) (sym (D_own i))
            (record {
              long = slot_long size work (sole_slot k c i) (long_enough i il);
              each = λ b bl. slot_byte size work (sole_slot k c i) (long_enough i il) b bl ∙ found i b il bl;
            })))
        | no n ↦ hand_served k right size out m i j (D i j) (sole.others j (omega arith) n) (D_other i j n)
      ]

  fill : (r b : ℕ) → r < rows k → b < size → get_or (g r) b 0 ≡ value k right (lane D b) c r
  fill r b rl bl = sym (value_data k right (lane D b) c r ck ∙ ap (λ v. get_or v b 0) (D_own r))

  pub sole_rebuilt : is_width k ≡ true → c < k + 2 → out c ≡ true
      → ((i b : ℕ) → i < rows k → b < size → slot size work (sole_slot k c i) b ≡ regained k right (held m b) c i)
      → m' ≡ written (after_reads m (half_of k c)) c (rows k) (λ i. slot_block size work (sole_slot k c i))
      → Rebuilt k right size out m c ((k + 1) * 2 ^ (k - 2)) (removed out c) m'
  unfolding g
  sole_rebuilt width cl o found e =
      let p = assembled k right size out m m' c cl o (half_of k c) few g e D (hand found) fill half (λ n. absurd (n ck sole)) in
      subst (λ n. Rebuilt k right size out m c n (removed out c) m')
      (sole_answer k right size out m c (total (k + 2) (reads m m') % 2 ^ 32) (removed out c) m' p ck sole ∙ small) p
    where
      less : 2 ^ (k - 2) ≤ rows k
      less = let h = half_rows k width in omega arith

      few : (x : ℕ) → half_of k c x < 2 ^ 32
      few x = let l = less in let r = few_rows k width in grind (arith, nat_tests)

      small : (k + 1) * 2 ^ (k - 2) % 2 ^ 32 ≡ (k + 1) * 2 ^ (k - 2)
      small = omega (arith, few_reads k (2 ^ (k - 2)) width less)

      half : c < k → Sole k out c → (x : ℕ) → x < k + 2 → half_of k c x ≡ cond (eqb x c) 0 (2 ^ (k - 2))
      half _ _ x xl = grind (arith, nat_tests)

-- ---- any other column

module _ (k : ℕ) (right : Rule) (law : Tournament k right) (width : is_width k ≡ true) (size : ℕ) (m m' : Meaning) (shape : Shaped k size m) (sized : Sized m)
    (work : List ℕ) (room : Room k size work) (c by : ℕ) where
  -- the others of two columns fit some data
  two_data : (p q : ℕ) → p < k + 2 → q < k + 2 → p ≢ q → (D : Data) × Whole k size D × Fits k right size (is_out (Two p q)) D m
  two_data p q pl ql d = some_blocks k right law size (is_out (Two p q)) m p q pl ql d (λ x _ e. (λ y. grind (arith, nat_tests), λ y. grind (arith, nat_tests)))

  module _ (out : Missing) (cols : are_columns k out ≡ true) (more : is_sole_data k out ≡ false) (o : is_out out c ≡ true)
      (p q : ℕ) (D : Data) (whole : Whole k size D) (fits : Fits k right size (is_out (Two p q)) D m) where
    finished : is_out (Two p q) c ≡ true → ((x : ℕ) → x < k + 2 → is_read k (is_out (Two p q)) x ≡ sources k (is_out out) c x)
        → ((i j : ℕ) → i < rows k → j < k → AtHand k right size (is_out out) m i j (D i j))
        → Found k right size (is_out (Two p q)) m by work
        → m' ≡ written (after_reads m (once_each k (is_out (Two p q)))) c (rows k) (λ i. slot_block size work (slot_for k by c i))
        → Rebuilt k right size (is_out out) m c (k * rows k) (removed (is_out out) c) m'
    finished o₂ same hand found e =
        let cl = out_is_column k out c cols o in
        let no : c < k → Sole k (is_out out) c → ⊥ = not_sole k out c cols more o in
        let p =
        assembled k right size (is_out out) m m' c cl o (once_each k (is_out (Two p q))) few (λ i. slot_block size work (slot_for k by c i)) e D hand
        (λ r b rl bl. slot_byte size work (slot_for k by c r) (has_slot k size work room (slot_for k by c r) (for_within k by c r rl)) b bl ∙ found D fits c r b cl o₂ rl bl)
        (λ ck s. absurd (no ck s))
        (λ _ x xl. ap (λ t. cond t (rows k) 0) (same x xl)) in
        subst (λ n. Rebuilt k right size (is_out out) m c n (removed (is_out out) c) m')
        (whole_answer k right size (is_out out) m c (total (k + 2) (reads m m') % 2 ^ 32) (removed (is_out out) c) m' p (at_most_two out) no ∙ small) p
      where
        few : (x : ℕ) → once_each k (is_out (Two p q)) x < 2 ^ 32
        few x = let r = few_rows k width in grind (arith, nat_tests)

        small : k * rows k % 2 ^ 32 ≡ k * rows k
        small = omega (arith, fewer_reads k width)

    -- a block in service is as it is held
    served : (i j : ℕ) → i < rows k → j < k → is_out out j ≡ false → is_out (Two p q) j ≡ false → AtHand k right size (is_out out) m i j (D i j)
    served i j il jk f f₂ =
        hand_served k right size (is_out out) m i j (D i j) f (sym (served_right k right law size (is_out (Two p q)) D m shape sized whole fits i j il jk f₂))

  pub pair_rebuilt : (out : Missing) → are_columns k out ≡ true → is_sole_data k out ≡ false → is_out out c ≡ true → Found k right size (is_out (pair_of k out)) m by work
      → m' ≡ written (after_reads m (once_each k (is_out (pair_of k out)))) c (rows k) (λ i. slot_block size work (slot_for k by c i))
      → Rebuilt k right size (is_out out) m c (k * rows k) (removed (is_out out) c) m'
  pair_rebuilt Nothing cols more o found e = absurd (true≢false (sym o))
  pair_rebuilt (One a) cols more o found e =
      let al : a < k + 2 = grind (arith, nat_tests) in
      let low : k ≤ a = grind (arith, nat_tests) in
      let is : a ≡ c = eqb-true a c o in
      let d = two_data k (k + 1) (omega arith) (omega arith) (omega arith) in
      finished (One a) cols more o k (k + 1) d.0 d.1 d.2
      (grind (arith, nat_tests))
      (λ x xl. read_one k a x low al xl ∙ ap (λ y. sources k (is_out (One a)) y x) is)
      (λ i j il jk. served (One a) cols more o k (k + 1) d.0 d.1 d.2 i j il jk (grind (arith, nat_tests)) (grind (arith, nat_tests)))
      found e
  pair_rebuilt (Two a b) cols more o found e =
      let al : a < k + 2 = grind (arith, nat_tests) in
      let bl : b < k + 2 = grind (arith, nat_tests) in
      let n : a ≢ b = λ y. grind (arith, nat_tests) in
      let d = two_data a b al bl n in
      finished (Two a b) cols more o a b d.0 d.1 d.2 o
      (λ x xl. elim (ℕ_discrete c a) [
        | yes y ↦ read_two k a b b c x al bl n bl (λ t. grind (arith, nat_tests)) xl
        | no z ↦ read_two k a b a c x al bl n al (λ t. grind (arith, nat_tests)) xl
      ])
      (λ i j il jk. hand i j il jk al bl n d.0 d.1 d.2 (is_out (Two a b) j) refl)
      found e
    where
      hand : (i j : ℕ) → i < rows k → j < k → a < k + 2 → b < k + 2 → a ≢ b → (D : Data) → Whole k size D → Fits k right size (is_out (Two a b)) D m
          → (t : Bool) → is_out (Two a b) j ≡ t → AtHand k right size (is_out (Two a b)) m i j (D i j)
      hand i j il jk al bl n D whole fits false f = served (Two a b) cols more o a b D whole fits i j il jk f f
      hand i j il jk al bl n D whole fits true t =
          elim (ℕ_discrete j a) [
            | yes y ↦ hand_solved k right size (is_out (Two a b)) m i j (D i j) t b bl (λ z. n (sym y ∙ sym z)) (grind (arith, nat_tests)) D whole fits refl
            | no z ↦ hand_solved k right size (is_out (Two a b)) m i j (D i j) t a al (λ y. z (sym y)) (grind (arith, nat_tests)) D whole fits refl
          ]

-- ---- what was located, once it is written

module _ (k size : ℕ) (width : is_width k ≡ true) (out : Missing) (cols : are_columns k out ≡ true) (m m₁ : Meaning) (work : List ℕ) (c : ℕ) (o : is_out out c ≡ true) where
  pub refilled : Heard k size (is_out out) m → Sized m → Room k size work → (m' : Meaning) (found : Whereabouts) → Located k (published k) size out m c found m₁ work
      → m' ≡ written m₁ c (rows k) (λ i. slot_block size work (slot_of k found c i))
      → Rebuilt k (published k) size (is_out out) m c (reads_for k found) (removed (is_out out) c) m'
  refilled heard sized room m' Alone h e =
      let a = h.alone refl in
      let s = sole_data k out c a.0 o in
      sole_rebuilt k (published k) size (is_out out) m m' work room c s.0 s.1 width (out_is_column k out c cols o) o a.2
      (e ∙ ap (λ x. written x c (rows k) (λ i. slot_block size work (sole_slot k c i))) a.1)
  refilled heard sized room m' (ByRows by) h e =
      let a = h.by_rows by refl in
      pair_rebuilt k (published k) (law_of_width k width) width size m m' heard.shape sized work room c by out cols a.0 o a.2
      (e ∙ ap (λ x. written x c (rows k) (λ i. slot_block size work (slot_for k by c i))) a.1)

-- ---- an accepted rebuild

module _ (r : Rostered) (kept : keeps r.width r.size r.missing ≡ true) (m : Meaning) (c : ℕ) where
  -- what its checks tell: the columns in service answer, and so does its own
  pub rebuild_ready : (w : ℕ) → rebuilding r m c w ≡ Ok tt → (k : ℕ) → k ≡ r.width → (size : ℕ) → size ≡ r.size → (out : Missing) → out ≡ r.missing
      → Heard k size (is_out out) m × (m.answers c ≡ true)
  rebuild_ready w ok k ke size se out oe =
      let h = rebuildable r m c w ok in
      let cols = are_columns-kept r kept in
      rw (ke, se, oe) (
        record { shape = h.sound.shape; answers = λ x xl f. h.sound.heard x xl (removed_out r.width r.missing c x cols ∙ ap (λ t. t && not (eqb x c)) f) },
        h.sound.heard c h.column (removed_out r.width r.missing c c cols ∙ removed_own (out_of r) c),
      )

  -- and what it does
  pub rebuilt : (r' : Rostered) → r' ≡ back_in r c → (m' : Meaning) (n k : ℕ) → k ≡ r.width → (size : ℕ) → size ≡ r.size → (out : Missing) → out ≡ r.missing
      → Rebuilt k (published k) size (is_out out) m c n (removed (is_out out) c) m'
      → Rebuilt r.width (published r.width) r.size (out_of r) m c n (out_of r') m'
  rebuilt r' e m' n k ke size se out oe h =
      let p = rw (ke, se, oe) at h in
      record {
        column = p.column;
        was_out = p.was_out;
        D = p.D;
        at_hand = p.at_hand;
        filled = p.filled;
        rest = p.rest;
        frame = p.frame;
        after = λ x. ap (λ t. out_of t x) e ∙ removed_out r.width r.missing c x (are_columns-kept r kept);
        counted = p.counted;
        half = p.half;
        whole = p.whole;
      }
