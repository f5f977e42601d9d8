-- What an answer of a tray tells, for proofs of code over any tray.
use Rattle.std.proofs.Common.{◌≡◌, ℕ, ◌<◌, Ok, arith}
use Rattle.std.proofs.lemmas.Bool.Decides.{nat_tests}
use Rattle.tray.specs.Meaning.{Meaning, Ready, verdict, asked}

-- An accepted read or write was ready, and a ready one is accepted.
module _ (m : Meaning) (c r n : ℕ) where
  pub accepted : verdict m c r n ≡ Ok tt → Ready m c r n
  accepted e = record { column = grind (arith, nat_tests); row = grind (arith, nat_tests); size = grind (arith, nat_tests); answers = grind (arith, nat_tests) }

  pub ready_accepted : Ready m c r n → verdict m c r n ≡ Ok tt
  ready_accepted h = let column = h.column in let row = h.row in let size = h.size in let answers = h.answers in grind (arith, nat_tests)

-- An answered question was about a column of the tray.
pub known : {X : Type 0} (m : Meaning) (c : ℕ) (v w : X) → asked m c v ≡ Ok w → c < m.columns
known m c v w e = grind (arith, nat_tests)
