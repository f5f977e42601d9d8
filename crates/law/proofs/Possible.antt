-- In every state an accepted get, put or rebuild can leave what it owes.
use Rattle.std.proofs.Common.{◌≡◌, ℕ, ◌+◌, ◌-◌, ◌%◌, ◌^◌, ◌<◌, ◌≤◌, Bool, true, false, cond, ◌&&◌, eqb, ltb, ◌≢◌, ◌⊎◌, List, [], length, get_or, sym, refl, ap, ◌∙◌, ap₂, inl, inr, true≢false, arith}
use native.Mathlib.Decide.{dec_lt}
use lib.Bits.{bit_xor}
use lib.Pow.{pow-lt}
use borrow.Author.Tests.{lt-true, le-false, eq-true, ne_false}
use Rattle.tray.specs.Meaning.{Meaning, Sized, tallied}
use Rattle.code.specs.Code.{Rule, rows, value}
use Rattle.code.specs.Neighbours.{Tournament}
use Rattle.code.specs.Laws.{lane}
use Rattle.law.specs.Service.{Columns, removed, AtMostTwo, Sole}
use Rattle.law.specs.Holding.{Data, held, Shaped, SameFrame}
use Rattle.law.specs.Hand.{AtHand}
use Rattle.law.specs.Tallies.{reads, total, sources}
use Rattle.law.specs.Calls.{writes, Got, Put, Rebuilt}
use Rattle.law.specs.Possible.{CallsCanBeKept}
use Rattle.law.proofs.Bools.{find}
use Rattle.law.proofs.Writes.{writes_data, writes_sum, writes_line}
use Rattle.law.proofs.Pinned.{build, build_long, build_at, some}
use Rattle.law.proofs.Tallies.{reads_are}

-- a tray with other blocks and other tallies
abbrev holding : Meaning → (ℕ → ℕ → List ℕ) → (ℕ → ℕ) → Meaning
holding m blocks tally = record { columns = m.columns; rows = m.rows; size = m.size; answers = m.answers; block = blocks; tally = tally }

framed : (m : Meaning) (blocks : ℕ → ℕ → List ℕ) (tally : ℕ → ℕ) → SameFrame m (holding m blocks tally)
framed m blocks tally = record { shape = record { wide = refl; tall = refl; deep = refl }; answers = refl }

module _ (k : ℕ) (right : Rule) (law : Tournament k right) (size : ℕ) (out : Columns) (m : Meaning)
    (shape : Shaped k size m) (sized : Sized m) (two : AtMostTwo out) where
  hand_at : (i j : ℕ) → i < rows k → j < k → (v : List ℕ) × AtHand k right size out m i j v
  hand_at i j il jk = some k right law size out m two i j il jk

  -- ---- get

  get_can : (j i : ℕ) → j < k → i < rows k → (v : List ℕ) × (m' : Meaning) × Sized m' × Got k right size out m j i v m'
  get_can j i jk il = (
    (hand_at i j il jk).0,
    tallied m j,
    sized,
    record {
      column = jk;
      row = il;
      at_hand = (hand_at i j il jk).1;
      calm = record { frame = record { shape = record { wide = refl; tall = refl; deep = refl }; answers = refl }; block = refl };
      one_read = λ _. refl;
    },
  )

  -- ---- put

  module _ (j i : ℕ) (x : List ℕ) (jk : j < k) (il : i < rows k) (long : length x ≡ size) where
    v : List ℕ
    v = (hand_at i j il jk).0

    summed : ℕ → ℕ → List ℕ
    summed c r = build size (λ b. bit_xor (held m b r c) (bit_xor (get_or v b 0) (get_or x b 0)))

    block_after : ℕ → ℕ → List ℕ
    block_after c r = cond (writes k right out j i c r) (cond (ltb c k) x (summed c r)) (m.block c r)

    sized_after : Sized (holding m block_after m.tally)
    unfolding block_after summed
    sized_after c r cl rl = go (writes k right out j i c r) (ltb c k)
      where
        go : (s t : Bool) → length (cond s (cond t x (summed c r)) (m.block c r)) ≡ m.size
        go true true = long ∙ sym shape.deep
        go true false = build_long size (λ b. bit_xor (held m b r c) (bit_xor (get_or v b 0) (get_or x b 0))) ∙ sym shape.deep
        go false t = sized c r cl rl

    written : (c r : ℕ) → writes k right out j i c r ≡ true → block_after c r ≡ cond (ltb c k) x (summed c r)
    unfolding block_after
    written c r e = ap (λ t. cond t (cond (ltb c k) x (summed c r)) (m.block c r)) e

    added_at : (c r b : ℕ) → k ≤ c → writes k right out j i c r ≡ true → b < size
        → get_or (block_after c r) b 0 ≡ bit_xor (held m b r c) (bit_xor (get_or v b 0) (get_or x b 0))
    unfolding summed
    added_at c r b kc e bl =
        ap (λ l. get_or l b 0) (written c r e ∙ ap (λ t. cond t x (summed c r)) (sym (le-false c k kc)))
        ∙ build_at size (λ b. bit_xor (held m b r c) (bit_xor (get_or v b 0) (get_or x b 0))) b bl

    put_can : (m' : Meaning) × Sized m' × Put k right size out m j i x m'
    unfolding block_after v
    put_can = (
      holding m block_after m.tally,
      sized_after,
      record {
        column = jk;
        row = il;
        long = long;
        v = v;
        at_hand = (hand_at i j il jk).1;
        place = λ e.
            written j i (writes_data k right out j i j i jk e ∙ ap₂ (λ s t. s && t) (sym (eq-true j j refl)) (sym (eq-true i i refl)))
            ∙ ap (λ t. cond t x (summed j i)) (sym (lt-true j k jk));
        sum = λ e b bl. added_at k i b (omega arith) (writes_sum k right out j i i e ∙ sym (eq-true i i refl)) bl;
        lines = λ e n nl h b bl. added_at (k + 1) n b (omega arith) (writes_line k right out j i n e ∙ h) bl;
        rest = λ c r _ _ e. ap (λ t. cond t (cond (ltb c k) x (summed c r)) (m.block c r)) e;
        frame = framed m block_after m.tally;
      },
    )

  -- ---- rebuild

  at_hand_all : Data
  at_hand_all i j = elim (dec_lt i (rows k)) [ yes il ↦ elim (dec_lt j k) [ yes jk ↦ (hand_at i j il jk).0 | no n ↦ [] ] | no n ↦ [] ]

  all_at_hand : (i j : ℕ) → i < rows k → j < k → AtHand k right size out m i j (at_hand_all i j)
  unfolding at_hand_all
  all_at_hand i j il jk = go (dec_lt i (rows k)) (dec_lt j k)
    where
      go : (a : Dec (i < rows k)) (b : Dec (j < k))
          → AtHand k right size out m i j (elim a [ yes il ↦ elim b [ yes jk ↦ (hand_at i j il jk).0 | no n ↦ [] ] | no n ↦ [] ])
      go (yes a) (yes b) = (hand_at i j a b).1
      go (yes a) (no n) = absurd (n jk)
      go (no n) b = absurd (n il)

  module _ (k32 : k ≤ 32) (c : ℕ) (cl : c < k + 2) (o : out c ≡ true) where
    -- the reads of each column: half of the others, or k columns whole
    growth : ((q : ℕ) × (q < k + 2) × (q ≢ c) × (out q ≡ true)) ⊎ ((x : ℕ) → x < k + 2 → x ≢ c → out x ≡ false) → ℕ → ℕ
    growth (inl q) x = cond (sources k out c x) (rows k) 0
    growth (inr inn) x = cond (ltb c k) (cond (eqb x c) 0 (2 ^ (k - 2))) (cond (sources k out c x) (rows k) 0)

    small : (b : Bool) (n : ℕ) → n < 32 → cond b (2 ^ n) 0 < 2 ^ 32
    small true n l = pow-lt l
    small false n l = omega arith

    growth_small : (w : ((q : ℕ) × (q < k + 2) × (q ≢ c) × (out q ≡ true)) ⊎ ((x : ℕ) → x < k + 2 → x ≢ c → out x ≡ false)) (x : ℕ) → growth w x < 2 ^ 32
    unfolding growth rows
    growth_small (inl q) x = small (sources k out c x) (k - 1) (omega arith)
    growth_small (inr inn) x = go (ltb c k) (eqb x c)
      where
        go : (s t : Bool) → cond s (cond t 0 (2 ^ (k - 2))) (cond (sources k out c x) (2 ^ (k - 1)) 0) < 2 ^ 32
        go true true = omega arith
        go true false = small true (k - 2) (omega arith)
        go false t = small (sources k out c x) (k - 1) (omega arith)

    rebuilt_block : ℕ → ℕ → List ℕ
    rebuilt_block x r = cond (eqb x c) (build size (λ b. value k right (lane at_hand_all b) c r)) (m.block x r)

    grown : ℕ → ℕ
    grown = growth (find (k + 2) out c)

    after : Meaning
    after = holding m rebuilt_block (λ x. (m.tally x + grown x) % 2 ^ 32)

    sized_rebuilt : Sized after
    unfolding after rebuilt_block
    sized_rebuilt x r xl rl = go (eqb x c)
      where
        go : (t : Bool) → length (cond t (build size (λ b. value k right (lane at_hand_all b) c r)) (m.block x r)) ≡ m.size
        go true = build_long size (λ b. value k right (lane at_hand_all b) c r) ∙ sym shape.deep
        go false = sized x r xl rl

    reads_grown : (x : ℕ) → reads m after x ≡ grown x
    unfolding after grown
    reads_grown x = reads_are m after x (grown x) (growth_small (find (k + 2) out c) x) (omega arith)

    half_grown : c < k → Sole k out c → (x : ℕ) → grown x ≡ cond (eqb x c) 0 (2 ^ (k - 2))
    unfolding grown growth
    half_grown ck sole x = go (find (k + 2) out c)
      where
        go : (w : ((q : ℕ) × (q < k + 2) × (q ≢ c) × (out q ≡ true)) ⊎ ((x : ℕ) → x < k + 2 → x ≢ c → out x ≡ false)) → growth w x ≡ cond (eqb x c) 0 (2 ^ (k - 2))
        go (inl q) = absurd (true≢false (sym q.3 ∙ sole.others q.0 q.1 q.2))
        go (inr inn) = ap (λ t. cond t (cond (eqb x c) 0 (2 ^ (k - 2))) (cond (sources k out c x) (rows k) 0)) (sym (lt-true c k ck))

    whole_grown : (c < k → Sole k out c → ⊥) → (x : ℕ) → grown x ≡ cond (sources k out c x) (rows k) 0
    unfolding grown growth
    whole_grown other x = go (find (k + 2) out c)
      where
        go : (w : ((q : ℕ) × (q < k + 2) × (q ≢ c) × (out q ≡ true)) ⊎ ((x : ℕ) → x < k + 2 → x ≢ c → out x ≡ false)) → growth w x ≡ cond (sources k out c x) (rows k) 0
        go (inl q) = refl
        go (inr inn) =
            elim (dec_lt c k) [
              | yes ck ↦ absurd (other ck (record { itself = o; others = inn }))
              | no n ↦ ap (λ t. cond t (cond (eqb x c) 0 (2 ^ (k - 2))) (cond (sources k out c x) (rows k) 0)) (sym (le-false c k (omega arith)))
            ]

    rebuild_can : (answer : ℕ) × (out' : Columns) × (m' : Meaning) × Sized m' × Rebuilt k right size out m c answer out' m'
    unfolding after rebuilt_block
    rebuild_can = (
      total (k + 2) (reads m after) % 2 ^ 32,
      removed out c,
      after,
      sized_rebuilt,
      record {
        column = cl;
        was_out = o;
        D = at_hand_all;
        at_hand = all_at_hand;
        filled = λ r b _ bl.
            ap (λ t. get_or (cond t (build size (λ b. value k right (lane at_hand_all b) c r)) (m.block c r)) b 0) (sym (eq-true c c refl))
            ∙ build_at size (λ b. value k right (lane at_hand_all b) c r) b bl;
        rest = λ x r _ _ n. ap (λ t. cond t (build size (λ b. value k right (lane at_hand_all b) c r)) (m.block x r)) (sym (ne_false x c n));
        frame = framed m rebuilt_block (λ x. (m.tally x + grown x) % 2 ^ 32);
        after = λ x. refl;
        counted = refl;
        half = λ ck sole x _. reads_grown x ∙ half_grown ck sole x;
        whole = λ other x _. reads_grown x ∙ whole_grown other x;
      },
    )

pub calls_can_be_kept : CallsCanBeKept
calls_can_be_kept k right law k32 size out m shape sized two =
    record {
      a_get = get_can k right law size out m shape sized two;
      a_put = put_can k right law size out m shape sized two;
      a_rebuild = rebuild_can k right law size out m shape sized two k32;
    }
