-- A place that is ready takes a read and a write.
use Rattle.std.proofs.Common.{◌≡◌, ℕ, Ok, arith}
use Rattle.std.proofs.lemmas.Bool.Decides.{nat_tests}
use Rattle.tray.specs.Meaning.{Meaning, verdict}
use Rattle.shelf.specs.Blocks.{Ready}

pub ready_accepted : (m : Meaning) (c i n : ℕ) → Ready m c i n → verdict m c i n ≡ Ok tt
ready_accepted m c i n h = grind (arith, nat_tests)
