-- A drill ends with the roster as it began, and carries runs through it.
use Rattle.std.proofs.Common.{◌≡◌, ℕ, false, cond, eqb, Ok, Err, Result, sym, refl, ap, ◌∙◌, true≢false, arith}
use borrow.Author.Tests.{eq-true}
use Rattle.std.proofs.lemmas.Bool.Decides.{nat_tests}
use Rattle.tray.specs.declared.fault.Fault.{Fault}
use Rattle.tray.specs.Meaning.{if_ok}
use Rattle.code.specs.Neighbours.{published}
use Rattle.law.specs.Promises.{told_start}
use Rattle.law.proofs.Promises.{start_carries, end_carries}
use Rattle.shelf.specs.declared.roster.missing.Missing.{Missing}
use Rattle.shelf.specs.declared.roster.missing.Missing.TheVariants.{Nothing, One, Two}
use Rattle.shelf.specs.Missing.{is_full, added, removed}
use Rattle.shelf.specs.Rosters.{Rostered, taken_out, back_in, out_of, shelf_on}
use Rattle.shelf.specs.Checks.{pulling}
use Rattle.shelf.specs.Promises.{PullsOn}
use Rattle.shelf.specs.Drills.{ended, DrillCarries}

-- a column that went out comes back
removed_added : (m : Missing) (c : ℕ) → is_full m ≡ false → removed (added m c) c ≡ m
removed_added Nothing c f = ap (λ t. cond t Nothing (One c)) (sym (eq-true c c refl))
removed_added (One a) c f = ap (λ t. cond t (One a) (cond (eqb a c) (One c) (Two a c))) (sym (eq-true c c refl))
removed_added (Two a b) c f = absurd (true≢false f)

module _ (r r' : Rostered) (c : ℕ) where
  pub drill_undone : (answer : Result (Unit {0}) Fault) → answer ≡ pulling r c → r' ≡ if_ok answer (taken_out r c) r → ended answer c r' ≡ r
  drill_undone (Ok u) e f =
      ap (λ t. back_in t c) f ∙ ap (λ m. record { width = r.width; size = r.size; missing = m }) (removed_added r.missing c (grind (arith, nat_tests)))
  drill_undone (Err u) e f = f

  pub drill_goes_on : (answer : Result (Unit {0}) Fault) → PullsOn r c answer r' → ended answer c r' ≡ r → DrillCarries r c answer r'
  drill_goes_on answer h undone =
      record {
        starts = λ m sized. start_carries r.width (published r.width) r.size (shelf_on r m sized) (shelf_on r' m sized) c answer h refl;
        ends = λ m sized.
            end_carries r.width (published r.width) r.size (shelf_on r' m sized) (shelf_on (ended answer c r') m sized)
            (out_of r) (told_start answer c) refl (ap out_of undone);
      }
