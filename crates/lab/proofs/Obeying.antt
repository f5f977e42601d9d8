-- A refused get in a drill leaves the tray, whether the drill was refused or the get.
use Rattle.std.proofs.Common.{◌≡◌, ℕ, List, Ok, Err, Result, MatchResult}
use Rattle.tray.specs.declared.fault.Fault.{Fault}
use Rattle.tray.specs.Meaning.{Meaning}
use Rattle.shelf.specs.Rosters.{Rostered, taken_out}
use Rattle.shelf.specs.Checks.{pulling}
use Rattle.shelf.specs.Promises.{GetsOn}
use Rattle.shelf.specs.Rehearsals.{RehearsesOn}

module _ (r : Rostered) (m : Meaning) (d c i : ℕ) (was v : List ℕ) (m' : Meaning) (f : Fault) where
  left_by_start : (start : Result (Unit {0}) Fault)
      → MatchResult start (λ _. GetsOn (taken_out r d) m c i was (Err f) v m') (λ _. (m' ≡ m) × (v ≡ was)) → m' ≡ m
  left_by_start (Ok u) h = h.0
  left_by_start (Err e) h = h.0

  pub rehearsal_refused : RehearsesOn r m d c i was (Err f) v m' → m' ≡ m
  rehearsal_refused h = left_by_start (pulling r d) h
