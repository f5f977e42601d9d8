-- A put and a rebuild leave columns that fit the new data.
use Rattle.std.proofs.Common.{◌≡◌, ℕ, ◌+◌, ◌<◌, Bool, true, false, cond, not, ◌&&◌, eqb, ◌⊎◌, List, get_or, sym, refl, ap, ◌∙◌, ap₂, inl, inr, arith, eqb-true}
use mathlib.Core.Path.{fun_ext}
use native.Mathlib.Decide.{ℕ_discrete}
use lib.Bits.{bit_xor, xor_zero_r}
use borrow.Author.Tests.{lt-true, le-false, eq-true, ne_false}
use Rattle.tray.specs.Meaning.{Meaning}
use Rattle.code.specs.Numbers.{only}
use Rattle.code.specs.Code.{Blocks, Rule, rows, horizontal, butterfly, value}
use Rattle.code.specs.Neighbours.{Tournament}
use Rattle.code.specs.Lines.{holds}
use Rattle.code.specs.Laws.{lane, changed, Changes}
use Rattle.code.proofs.Xor.{only_true, only_false}
use Rattle.code.proofs.Linear.{value_data, value_horizontal, value_butterfly}
use Rattle.code.proofs.Put.{put_rule}
use Rattle.law.specs.Service.{Columns}
use Rattle.law.specs.Holding.{Data, held, Fits}
use Rattle.law.specs.Calls.{writes, Put, Rebuilt}
use Rattle.law.specs.Runs.{accepted, put, putting}
use Rattle.law.proofs.Bools.{removed_other}
use Rattle.law.proofs.Hand.{which, value_same}

-- ---- put

module _ (k : ℕ) (right : Rule) (out : Columns) (j i : ℕ) where
  pub writes_data : (c r : ℕ) → c < k → out c ≡ false → writes k right out j i c r ≡ (eqb c j && eqb r i)
  unfolding writes
  writes_data c r ck e =
      ap₂ (λ s t. not s && cond t (eqb c j && eqb r i) (cond (eqb c k) (eqb r i) (holds k right r i j))) e (sym (lt-true c k ck))

  pub writes_sum : (r : ℕ) → out k ≡ false → writes k right out j i k r ≡ eqb r i
  unfolding writes
  writes_sum r e =
      ap₂ (λ s t. not s && cond t (eqb k j && eqb r i) (cond (eqb k k) (eqb r i) (holds k right r i j))) e (sym (le-false k k (omega arith)))
      ∙ ap (λ t. cond t (eqb r i) (holds k right r i j)) (sym (eq-true k k refl))

  pub writes_line : (r : ℕ) → out (k + 1) ≡ false → writes k right out j i (k + 1) r ≡ holds k right r i j
  unfolding writes
  writes_line r e =
      ap₂ (λ s t. not s && cond t (eqb (k + 1) j && eqb r i) (cond (eqb (k + 1) k) (eqb r i) (holds k right r i j))) e (sym (le-false (k + 1) k (omega arith)))
      ∙ ap (λ t. cond t (eqb r i) (holds k right r i j)) (sym (ne_false (k + 1) k (omega arith)))

-- byte b of the data with x put at a place
lane_put : (D : Data) (j i : ℕ) (x : List ℕ) (b : ℕ) → lane (putting (accepted (put j i x)) D) b ≡ changed (lane D b) i j (get_or x b 0)
unfolding changed
lane_put D j i x b = fun_ext (λ i'. fun_ext (λ j'. go i' j' (eqb i' i && eqb j' j)))
  where
    go : (i' j' : ℕ) (t : Bool) → get_or (cond t x (D i' j')) b 0 ≡ cond t (get_or x b 0) (get_or (D i' j') b 0)
    go i' j' true = refl
    go i' j' false = refl

module _ (k : ℕ) (right : Rule) (law : Tournament k right) (size : ℕ) (out : Columns) (D : Data) (m m' : Meaning) (j i : ℕ) (x : List ℕ)
    (fits : Fits k right size out D m) (p : Put k right size out m j i x m') (old : p.v ≡ D i j) where
  module _ (b : ℕ) (bl : b < size) where
    new : Blocks
    new = changed (lane D b) i j (get_or x b 0)

    rule : Changes k right (lane D b) i j (get_or x b 0)
    rule = put_rule k right law (lane D b) i j (get_or x b 0) p.column

    -- a block that the put does not write
    same : (c r : ℕ) → c < k + 2 → out c ≡ false → r < rows k → writes k right out j i c r ≡ false → held m' b r c ≡ value k right (lane D b) c r
    same c r cl e rl w = ap (λ l. get_or l b 0) (p.rest c r cl rl w) ∙ fits c r b cl e rl bl

    put_data : (c r : ℕ) → c < k → out c ≡ false → r < rows k → held m' b r c ≡ value k right new c r
    unfolding changed new
    put_data c r ck e rl = go (eqb r i) (eqb c j) refl refl ∙ sym (value_data k right new c r ck)
      where
        off : (s t : Bool) → eqb r i ≡ s → eqb c j ≡ t → t && s ≡ false → held m' b r c ≡ lane D b r c
        off s t es et z =
            same c r (omega arith) e rl (writes_data k right out j i c r ck e ∙ ap₂ (λ t s. t && s) et es ∙ z) ∙ value_data k right (lane D b) c r ck

        go : (s t : Bool) → eqb r i ≡ s → eqb c j ≡ t → held m' b r c ≡ cond (eqb r i && eqb c j) (get_or x b 0) (lane D b r c)
        go true true es et =
            ap₂ (λ c r. get_or (m'.block c r) b 0) (eqb-true c j et) (eqb-true r i es)
            ∙ ap (λ l. get_or l b 0) (p.place (ap out (sym (eqb-true c j et)) ∙ e))
            ∙ sym (ap₂ (λ s t. cond (s && t) (get_or x b 0) (lane D b r c)) es et)
        go true false es et = off true false es et refl ∙ sym (ap₂ (λ s t. cond (s && t) (get_or x b 0) (lane D b r c)) es et)
        go false true es et = off false true es et refl ∙ sym (ap₂ (λ s t. cond (s && t) (get_or x b 0) (lane D b r c)) es et)
        go false false es et = off false false es et refl ∙ sym (ap₂ (λ s t. cond (s && t) (get_or x b 0) (lane D b r c)) es et)

    -- the difference that is added
    diff : ℕ
    diff = bit_xor (lane D b i j) (get_or x b 0)

    diff_is : bit_xor (get_or p.v b 0) (get_or x b 0) ≡ diff
    unfolding diff
    diff_is = ap (λ l. bit_xor (get_or l b 0) (get_or x b 0)) old

    put_sum : (r : ℕ) → out k ≡ false → r < rows k → held m' b r k ≡ horizontal k new r
    unfolding new diff
    put_sum r e rl = go (eqb r i) refl ∙ sym (rule.row r)
      where
        go : (t : Bool) → eqb r i ≡ t → held m' b r k ≡ bit_xor (horizontal k (lane D b) r) (only (eqb r i) diff)
        go true t =
            ap (λ r. held m' b r k) (eqb-true r i t) ∙ p.sum e b bl
            ∙ ap₂ bit_xor (ap (λ r. held m b r k) (sym (eqb-true r i t)) ∙ fits k r b (omega arith) e rl bl ∙ value_horizontal k right (lane D b) r)
            (diff_is ∙ sym (only_true (eqb r i) diff t))
        go false t =
            same k r (omega arith) e rl (writes_sum k right out j i r e ∙ t) ∙ value_horizontal k right (lane D b) r
            ∙ sym (xor_zero_r (horizontal k (lane D b) r)) ∙ ap (bit_xor (horizontal k (lane D b) r)) (sym (only_false (eqb r i) diff t))

    put_line : (n : ℕ) → out (k + 1) ≡ false → n < rows k → held m' b n (k + 1) ≡ butterfly k right new n
    unfolding new diff
    put_line n e nl = go (holds k right n i j) refl ∙ sym (rule.line n)
      where
        go : (t : Bool) → holds k right n i j ≡ t → held m' b n (k + 1) ≡ bit_xor (butterfly k right (lane D b) n) (only (holds k right n i j) diff)
        go true t =
            p.lines e n nl t b bl
            ∙ ap₂ bit_xor (fits (k + 1) n b (omega arith) e nl bl ∙ value_butterfly k right (lane D b) n)
            (diff_is ∙ sym (only_true (holds k right n i j) diff t))
        go false t =
            same (k + 1) n (omega arith) e nl (writes_line k right out j i n e ∙ t) ∙ value_butterfly k right (lane D b) n
            ∙ sym (xor_zero_r (butterfly k right (lane D b) n)) ∙ ap (bit_xor (butterfly k right (lane D b) n)) (sym (only_false (holds k right n i j) diff t))

    put_at : (c r : ℕ) → c < k + 2 → out c ≡ false → r < rows k → held m' b r c ≡ value k right new c r
    put_at c r cl e rl = go (which k c cl)
      where
        go : (c < k) ⊎ ((c ≡ k) ⊎ (c ≡ k + 1)) → held m' b r c ≡ value k right new c r
        go (inl ck) = put_data c r ck e rl
        go (inr (inl q)) =
            ap (held m' b r) q ∙ put_sum r (ap out (sym q) ∙ e) rl ∙ sym (value_horizontal k right new r) ∙ ap (λ c. value k right new c r) (sym q)
        go (inr (inr q)) =
            ap (held m' b r) q ∙ put_line r (ap out (sym q) ∙ e) rl ∙ sym (value_butterfly k right new r) ∙ ap (λ c. value k right new c r) (sym q)

  pub put_fits : Fits k right size out (putting (accepted (put j i x)) D) m'
  unfolding new
  put_fits c r b cl e rl bl = put_at b bl c r cl e rl ∙ ap (λ X. value k right X c r) (sym (lane_put D j i x b))

-- ---- rebuild

pub rebuilt_fits : (k : ℕ) (right : Rule) (size : ℕ) (out out' : Columns) (D : Data) (m m' : Meaning) (c answer : ℕ)
    → Fits k right size out D m → (p : Rebuilt k right size out m c answer out' m') → ((i j : ℕ) → i < rows k → j < k → p.D i j ≡ D i j)
    → Fits k right size out' D m'
rebuilt_fits k right size out out' D m m' c answer fits p same x r b xl e rl bl =
    elim (ℕ_discrete x c) [
      | yes y ↦
          ap (held m' b r) y ∙ p.filled r b rl bl
          ∙ value_same k right (lane p.D b) (lane D b) (λ i j il jk. ap (λ l. get_or l b 0) (same i j il jk)) c r p.column rl
          ∙ ap (λ c. value k right (lane D b) c r) (sym y)
      | no n ↦ ap (λ l. get_or l b 0) (p.rest x r xl rl n) ∙ fits x r b xl (sym (removed_other out c x n) ∙ sym (p.after x) ∙ e) rl bl
    ]
