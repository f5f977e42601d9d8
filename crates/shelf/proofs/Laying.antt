-- A layout keeps its promise, and begins a run.
use Rattle.std.proofs.Common.{◌≡◌, ℕ, ◌+◌, Bool, true, false, cond, ◌&&◌, replicate, None, Ok, Err, Result, sym, refl, ap, ◌∙◌, subst, ap₂, arith}
use borrow.Author.Tests.{lt-true}
use Rattle.tray.specs.declared.fault.Fault.{Fault}
use Rattle.tray.specs.declared.fault.Refusal.TheVariants as refusal
use Rattle.tray.specs.Refusals.{shelf_fault}
use Rattle.tray.specs.Meaning.{Meaning, Sized, if_ok}
use Rattle.code.specs.Widths.{is_width}
use Rattle.code.specs.Code.{rows}
use Rattle.law.specs.Calls.{Laid}
use Rattle.law.specs.Runs.{Run}
use Rattle.shelf.specs.declared.roster.Roster.{Roster}
use Rattle.shelf.specs.Missing.{is_out, is_size}
use Rattle.shelf.specs.Rosters.{Rostered, roster_of, full_roster}
use Rattle.shelf.specs.Checks.{laying}
use Rattle.shelf.specs.Layouts.{made_of, given, laying_out, zeroed, Begins}
use Rattle.shelf.proofs.Checked.{laid_sound}

-- what an accepted answer within the limits says
accepted_in : (t : Bool) (v : Result (Unit {0}) Fault) (r r' : Rostered) (f : Fault) → Ok r ≡ cond t (given v r') (Err f) → (v ≡ Ok tt) × (r ≡ r')
accepted_in true (Ok u) r r' f e = (refl, cc)
accepted_in true (Err g) r r' f e = absurd (let z : ◌≡◌ {A = ℕ} 0 1 = cc in omega arith)
accepted_in false v r r' f e = absurd (let z : ◌≡◌ {A = ℕ} 0 1 = cc in omega arith)

-- an accepted layout answers a new roster, on a tray that takes it
laid_out : (k b : ℕ) (m : Meaning) (r : Rostered) → Ok r ≡ laying_out k b m → (laying (full_roster k b) m ≡ Ok tt) × (r ≡ full_roster k b)
laid_out k b m r e =
    accepted_in (is_width k && is_size b) (laying (full_roster k b) m) r (full_roster k b) (shelf_fault refusal.OutsideLimits None None) e

module _ (k b : ℕ) (m m' : Meaning) where
  laid : laying (full_roster k b) m ≡ Ok tt → m' ≡ zeroed k b m → Laid k b m m'
  laid ok e =
      record {
        shape = (laid_sound (full_roster k b) m ok).shape;
        frame = record {
          shape = record { wide = ap (λ t. t.columns) e; tall = ap (λ t. t.rows) e; deep = ap (λ t. t.size) e };
          answers = ap (λ t. t.answers) e;
        };
        tally = ap (λ t. t.tally) e;
        zeros = λ c r cl rl.
            ap (λ t. t.block c r) e
            ∙ ap₂ (λ s t. cond (s && t) (replicate b 0) (m.block c r)) (sym (lt-true c (k + 2) cl)) (sym (lt-true r (rows k) rl));
      }

  pub layout_begins : (sized : Sized m') (answer : Result Roster Fault) → made_of answer ≡ laying_out k b m → m' ≡ if_ok answer (zeroed k b m) m → Begins answer m' sized
  layout_begins sized (Ok r) e f =
      let same = (laid_out k b m (roster_of r) e).1 in
      Run.begins m
      (subst (λ x. Laid x.width x.size m m') (sym same) (laid (laid_out k b m (roster_of r) e).0 f))
      (λ c. ap (λ x. is_out x.missing c) same)
  layout_begins sized (Err u) e f = tt
