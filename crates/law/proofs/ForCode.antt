-- The data at hand in each of the three cases, for the proofs of calls.
use Rattle.std.proofs.Common.{◌≡◌, ℕ, ◌+◌, ◌<◌, Bool, true, false, ◌≢◌, List, sym, ◌∙◌, true≢false}
use Rattle.tray.specs.Meaning.{Meaning}
use Rattle.code.specs.Code.{Rule}
use Rattle.law.specs.Service.{Columns, Sole}
use Rattle.law.specs.Holding.{Data, Whole, held, Fits}
use Rattle.law.specs.Hand.{AtHand, Bytes, regained}

clash : {A : Type 0} (b : Bool) → b ≡ true → b ≡ false → A
clash b t f = absurd (true≢false (sym t ∙ f))

module _ (k : ℕ) (right : Rule) (size : ℕ) (out : Columns) (m : Meaning) (i j : ℕ) (v : List ℕ) where
  -- the column is in service
  pub hand_served : out j ≡ false → v ≡ m.block j i → AtHand k right size out m i j v
  hand_served o e = record { served = λ _. e; sole = λ s. clash (out j) s.itself o; solved = λ t _ _ _ _. clash (out j) t o }

  -- the column alone is out
  pub hand_sole : Sole k out j → Bytes size v (λ b. regained k right (held m b) j i) → AtHand k right size out m i j v
  hand_sole s h = record { served = λ o. clash (out j) s.itself o; sole = λ _. h; solved = λ _ q ql n o. clash (out q) o (s.others q ql n) }

  -- the column is out with another one
  pub hand_solved : out j ≡ true → (q : ℕ) → q < k + 2 → q ≢ j → out q ≡ true → (D : Data) → Whole k size D → Fits k right size out D m → v ≡ D i j
      → AtHand k right size out m i j v
  hand_solved t q ql n o D whole fits e =
      record { served = λ f. clash (out j) t f; sole = λ s. clash (out q) o (s.others q ql n); solved = λ _ _ _ _ _. (D, whole, fits, e) }
