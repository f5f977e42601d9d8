-- What a call on the right half of a split tray leaves of the whole.
use Rattle.std.proofs.Common.{◌≡◌, ℕ, ◌+◌, ◌-◌, ◌<◌, ◌≤◌, true, List, Ok, Err, Result, refl, ap, ⊎_elim, arith}
use mathlib.Core.Path.{fun_ext}
use Rattle.std.proofs.lemmas.Bool.{cases_Bool}
use Rattle.std.proofs.lemmas.Bool.Decides.{nat_tests}
use Rattle.tray.specs.declared.fault.Fault.{Fault}
use Rattle.tray.specs.declared.split.Half.TheVariants.{Right}
use Rattle.tray.specs.Meaning.{Meaning, tallied, stored, if_ok}
use Rattle.tray.specs.SplitTrays.{beside, matching, split_of, half_of, answer_at}

-- the right half changed where the call is accepted, so the whole is
pub whole_step : {X : Type 0} (l r changed next whole : Meaning) (c : ℕ) (answer told : Result X Fault) → split_of l changed ≡ whole → next ≡ if_ok answer changed r → told ≡ answer_at answer c → split_of l next ≡ if_ok told whole (split_of l r)
whole_step l r changed next whole c (Ok x) told h e t = rw (t, e) h
whole_step l r changed next whole c (Err f) told h e t = rw (t, e) refl

-- column c of the whole, which is column at of the right half
module _ (l r : Meaning) (c at : ℕ) (b : c < (split_of l r).columns) (e : Right at ≡ half_of l c) where
  fit : matching l r ≡ true
  fit = ⊎_elim (λ h. h) (λ h. absurd (let k : c < 0 = rw h at b in omega arith)) (cases_Bool (matching l r))

  beyond : l.columns ≤ c
  beyond = grind (arith, nat_tests)

  its : at ≡ c - l.columns
  its = grind (arith, nat_tests)

  pub tallied_right : split_of l (tallied r at) ≡ tallied (split_of l r) c
  tallied_right =
      let with_tally : (ℕ → ℕ) → Meaning = λ t. record { columns = l.columns + r.columns; rows = l.rows; size = l.size; answers = (beside l r).answers; block = (beside l r).block; tally = t } in
      rw (its, fit) (ap with_tally (fun_ext (λ j. let k = beyond in grind (arith, nat_tests))))

  pub stored_right : (i : ℕ) (bytes : List ℕ) → split_of l (stored r at i bytes) ≡ stored (split_of l r) c i bytes
  stored_right i bytes =
      let with_block : (ℕ → ℕ → List ℕ) → Meaning = λ k. record { columns = l.columns + r.columns; rows = l.rows; size = l.size; answers = (beside l r).answers; block = k; tally = (beside l r).tally } in
      rw (its, fit) (ap with_block (fun_ext (λ j. fun_ext (λ i. let k = beyond in grind (arith, nat_tests)))))
