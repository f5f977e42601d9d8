-- Where the columns in service fit data, the data at hand are these data.
use Rattle.std.proofs.Common.{◌≡◌, ℕ, ◌+◌, ◌<◌, Bool, true, false, ◌≢◌, ◌⊎◌, List, length, sym, refl, ap, ◌∙◌, inl, inr, arith, ext_get_or}
use native.Mathlib.Decide.{ℕ_discrete, dec_lt}
use Rattle.tray.specs.Meaning.{Meaning, Sized}
use Rattle.code.specs.Code.{Blocks, Rule, rows, value}
use Rattle.code.specs.Neighbours.{Tournament}
use Rattle.code.specs.Laws.{lane}
use Rattle.code.proofs.Linear.{value_data, value_horizontal, value_butterfly, horizontal_same, butterfly_same}
use Rattle.code.proofs.Main.{any_two_blocks}
use Rattle.law.specs.Service.{Columns, AtMostTwo}
use Rattle.law.specs.Holding.{Data, Whole, held, Fits, Shaped}
use Rattle.law.specs.Hand.{AtHand, Bytes, regained}
use Rattle.law.proofs.Bools.{find, not_so}
use Rattle.law.proofs.Regained.{regained_right}

-- a column is a data column, the horizontal or the butterfly one
pub which : (k c : ℕ) → c < k + 2 → (c < k) ⊎ ((c ≡ k) ⊎ (c ≡ k + 1))
which k c l =
    elim (dec_lt c k) [
      | yes y ↦ inl y
      | no n ↦ elim (ℕ_discrete c k) [ yes e ↦ inr (inl e) | no m ↦ inr (inr (omega arith)) ]
    ]

-- values depend on the data alone
pub value_same : (k : ℕ) (right : Rule) (D E : Blocks) → ((i j : ℕ) → i < rows k → j < k → D i j ≡ E i j)
    → (c r : ℕ) → c < k + 2 → r < rows k → value k right D c r ≡ value k right E c r
value_same k right D E same c r cl rl = go (which k c cl)
  where
    go : (c < k) ⊎ ((c ≡ k) ⊎ (c ≡ k + 1)) → value k right D c r ≡ value k right E c r
    go (inl ck) = value_data k right D c r ck ∙ same r c rl ck ∙ sym (value_data k right E c r ck)
    go (inr (inl e)) =
        ap (λ x. value k right D x r) e ∙ value_horizontal k right D r ∙ horizontal_same k right D E same r rl
        ∙ sym (value_horizontal k right E r) ∙ ap (λ x. value k right E x r) (sym e)
    go (inr (inr e)) =
        ap (λ x. value k right D x r) e ∙ value_butterfly k right D r ∙ butterfly_same k right D E same r rl
        ∙ sym (value_butterfly k right E r) ∙ ap (λ x. value k right E x r) (sym e)

-- fewer columns in service fit the same data
pub fits_fewer : (k : ℕ) (right : Rule) (size : ℕ) (out out' : Columns) (D : Data) (m : Meaning) → ((c : ℕ) → out' c ≡ false → out c ≡ false)
    → Fits k right size out D m → Fits k right size out' D m
fits_fewer k right size out out' D m h fits c r b cl e rl bl = fits c r b cl (h c e) rl bl

module _ (k : ℕ) (right : Rule) (law : Tournament k right) (size : ℕ) (out : Columns) (D : Data) (m : Meaning)
    (shape : Shaped k size m) (sized : Sized m) (whole : Whole k size D) (fits : Fits k right size out D m) where
  -- a data column in service holds the data
  pub served_right : (i j : ℕ) → i < rows k → j < k → out j ≡ false → m.block j i ≡ D i j
  served_right i j il jk e =
      ext_get_or 0 (m.block j i) (D i j) (long ∙ sym (whole i j il jk))
      (λ b bl. fits j i b (omega arith) e il (omega (arith, long)) ∙ value_data k right (lane D b) j i jk)
    where
      long : length (m.block j i) ≡ size
      long = sized j i (omega arith) (omega arith) ∙ shape.deep

  module _ (two : AtMostTwo out) where
    pub at_hand_right : (i j : ℕ) → i < rows k → j < k → (v : List ℕ) → AtHand k right size out m i j v → v ≡ D i j
    at_hand_right i j il jk v h = go (out j) refl
      where
        alone : Bytes size v (λ b. regained k right (held m b) j i) → ((c : ℕ) → c < k + 2 → c ≢ j → out c ≡ false) → v ≡ D i j
        alone bytes inn =
            ext_get_or 0 v (D i j) (bytes.long ∙ sym (whole i j il jk))
            (λ b bl.
            let bs : b < size = omega (arith, bytes.long) in
            bytes.each b bs
            ∙ regained_right k right (lane D b) (held m b) j jk
            (λ i c l ck n. fits c i b (omega arith) (inn c (omega arith) n) l bs ∙ value_data k right (lane D b) c i ck)
            (λ i l. fits k i b (omega arith) (inn k (omega arith) (omega arith)) l bs ∙ value_horizontal k right (lane D b) i)
            (λ n l. fits (k + 1) n b (omega arith) (inn (k + 1) (omega arith) (omega arith)) l bs ∙ value_butterfly k right (lane D b) n)
            i il)

        solve : out j ≡ true → (q : ℕ) → q < k + 2 → q ≢ j → out q ≡ true
            → (E : Data) × Whole k size E × Fits k right size out E m × (v ≡ E i j) → v ≡ D i j
        solve e q ql ne f s =
            s.3
            ∙ any_two_blocks k size right law j q (omega arith) ql (λ y. ne (sym y)) s.0 D s.1 whole
            (λ c r b cl n n' rl bl.
            let inn : out c ≡ false = not_so (out c) (λ t. n' (sym (two j q c e f t (λ y. ne (sym y)) (λ y. n (sym y))))) in
            sym (s.2 c r b cl inn rl bl) ∙ fits c r b cl inn rl bl)
            i j il jk

        go : (b : Bool) → out j ≡ b → v ≡ D i j
        go false e = h.served e ∙ served_right i j il jk e
        go true e =
            elim (find (k + 2) out j) [
              | inl q ↦ solve e q.0 q.1 q.2 q.3 (h.solved e q.0 q.1 q.2 q.3)
              | inr inn ↦ alone (h.sole (record { itself = e; others = inn })) inn
            ]
