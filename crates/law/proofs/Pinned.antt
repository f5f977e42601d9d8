-- In every state there is exactly one block at hand for each data place.
use Rattle.std.proofs.Common.{◌≡◌, ℕ, zero, suc, ◌+◌, ◌<◌, Bool, true, false, ◌≢◌, List, [], ◌∷◌, length, get_or, sym, refl, ap, ◌∙◌, inl, inr, true≢false, arith, ext_get_or}
use Rattle.tray.specs.Meaning.{Meaning}
use Rattle.code.specs.Code.{Blocks, Rule, rows, value}
use Rattle.code.specs.Neighbours.{Tournament}
use Rattle.code.specs.Laws.{lane}
use Rattle.code.proofs.Main.{any_two_blocks}
use Rattle.law.specs.Service.{Columns, AtMostTwo}
use Rattle.law.specs.Holding.{Data, Whole, held, Fits}
use Rattle.law.specs.Hand.{AtHand, Bytes, regained}
use Rattle.law.specs.Pinned.{SomeBlocks, AtHandIsPinned}
use Rattle.law.proofs.Bools.{find, not_so}
use Rattle.law.proofs.Hand.{value_same}
use Rattle.law.proofs.Solve.{some_data}

-- the list of f 0 to f (n - 1)
pub build : ℕ → (ℕ → ℕ) → List ℕ
build zero f = []
build (suc n) f = f 0 ∷ build n (λ b. f (suc b))

pub build_long : (n : ℕ) (f : ℕ → ℕ) → length (build n f) ≡ n
unfolding build
build_long zero f = refl
build_long (suc n) f = ap suc (build_long n (λ b. f (suc b)))

pub build_at : (n : ℕ) (f : ℕ → ℕ) (b : ℕ) → b < n → get_or (build n f) b 0 ≡ f b
unfolding build
build_at zero f b l = omega arith
build_at (suc n) f zero l = refl
build_at (suc n) f (suc b) l = build_at n (λ b. f (suc b)) b (omega arith)

pub some_blocks : SomeBlocks
some_blocks k right law size out m p q pl ql d inn = (
  D,
  λ i j _ _. build_long size (λ b. (lanes b).0 i j),
  λ c r b cl e rl bl.
      sym ((lanes b).1 c r cl (inn c cl e).0 (inn c cl e).1 rl)
      ∙ value_same k right (lanes b).0 (lane D b) (λ i j _ _. sym (build_at size (λ b. (lanes b).0 i j) b bl)) c r cl rl,
)
  where
    lanes : (b : ℕ) → (E : Blocks) × ((c r : ℕ) → c < k + 2 → c ≢ p → c ≢ q → r < rows k → value k right E c r ≡ held m b r c)
    lanes b = some_data k right law p q pl ql d (held m b)

    D : Data
    D i j = build size (λ b. (lanes b).0 i j)

module _ (k : ℕ) (right : Rule) (law : Tournament k right) (size : ℕ) (out : Columns) (m : Meaning) (two : AtMostTwo out) (i j : ℕ) (il : i < rows k) (jk : j < k) where
  pub some : (v : List ℕ) × AtHand k right size out m i j v
  some = go (out j) refl
    where
      clash : {A : Type 0} (b : Bool) → b ≡ true → b ≡ false → A
      clash b t f = absurd (true≢false (sym t ∙ f))

      pair : out j ≡ true → (q : ℕ) → q < k + 2 → q ≢ j → out q ≡ true
          → (D : Data) × Whole k size D × Fits k right size out D m → (v : List ℕ) × AtHand k right size out m i j v
      pair e q ql n f D = (
        D.0 i j,
        record {
          served = λ z. clash (out j) e z;
          sole = λ s. clash (out q) f (s.others q ql n);
          solved = λ _ _ _ _ _. (D.0, D.1, D.2, refl);
        },
      )

      away : out j ≡ true → (q : ℕ) → out q ≡ true → (c : ℕ) → c < k + 2 → out c ≡ false → (c ≢ j) × (c ≢ q)
      away e q f c cl z = (λ y. clash (out c) (ap out y ∙ e) z, λ y. clash (out c) (ap out y ∙ f) z)

      lone : out j ≡ true → ((c : ℕ) → c < k + 2 → c ≢ j → out c ≡ false) → (v : List ℕ) × AtHand k right size out m i j v
      lone e inn = (
        build size (λ b. regained k right (held m b) j i),
        record {
          served = λ z. clash (out j) e z;
          sole = λ _. record {
            long = build_long size (λ b. regained k right (held m b) j i);
            each = λ b bl. build_at size (λ b. regained k right (held m b) j i) b bl;
          };
          solved = λ _ q ql n f. clash (out q) f (inn q ql n);
        },
      )

      go : (b : Bool) → out j ≡ b → (v : List ℕ) × AtHand k right size out m i j v
      go false e = (m.block j i, record { served = λ _. refl; sole = λ s. clash (out j) s.itself e; solved = λ t _ _ _ _. clash (out j) t e })
      go true e =
          elim (find (k + 2) out j) [
            | inl q ↦
                pair e q.0 q.1 q.2 q.3
                (some_blocks k right law size out m j q.0 (omega arith) q.1 (λ y. q.2 (sym y)) (away e q.0 q.3))
            | inr inn ↦ lone e inn
          ]

  only_one : (v w : List ℕ) → AtHand k right size out m i j v → AtHand k right size out m i j w → v ≡ w
  only_one v w g h = go (out j) refl
    where
      pair : out j ≡ true → (q : ℕ) → q < k + 2 → q ≢ j → out q ≡ true
          → (D : Data) × Whole k size D × Fits k right size out D m × (v ≡ D i j)
          → (E : Data) × Whole k size E × Fits k right size out E m × (w ≡ E i j) → v ≡ w
      pair e q ql n f s t =
          s.3
          ∙ any_two_blocks k size right law j q (omega arith) ql (λ y. n (sym y)) s.0 t.0 s.1 t.1
          (λ c r b cl n' m' rl bl.
          let inn : out c ≡ false = not_so (out c) (λ z. m' (sym (two j q c e f z (λ y. n (sym y)) (λ y. n' (sym y))))) in
          sym (s.2 c r b cl inn rl bl) ∙ t.2 c r b cl inn rl bl)
          i j il jk
          ∙ sym t.3

      lone : Bytes size v (λ b. regained k right (held m b) j i) → Bytes size w (λ b. regained k right (held m b) j i) → v ≡ w
      lone s t = ext_get_or 0 v w (s.long ∙ sym t.long) (λ b bl. s.each b (omega (arith, s.long)) ∙ sym (t.each b (omega (arith, s.long))))

      go : (b : Bool) → out j ≡ b → v ≡ w
      go false e = g.served e ∙ sym (h.served e)
      go true e =
          elim (find (k + 2) out j) [
            | inl q ↦ pair e q.0 q.1 q.2 q.3 (g.solved e q.0 q.1 q.2 q.3) (h.solved e q.0 q.1 q.2 q.3)
            | inr inn ↦ lone (g.sole (record { itself = e; others = inn })) (h.sole (record { itself = e; others = inn }))
          ]

pub at_hand_is_pinned : AtHandIsPinned
at_hand_is_pinned k right law size out m two i j il jk =
    record { some = some k right law size out m two i j il jk; only_one = only_one k right law size out m two i j il jk }
