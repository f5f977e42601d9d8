-- A pull keeps its promise.
use Rattle.std.proofs.Common.{◌≡◌, ℕ, false, Ok, Err, Result, sym, refl, ap, ◌∙◌, arith}
use Rattle.std.proofs.lemmas.Bool.Decides.{nat_tests}
use Rattle.tray.specs.declared.fault.Fault.{Fault}
use Rattle.tray.specs.Meaning.{if_ok}
use Rattle.code.specs.Neighbours.{published}
use Rattle.law.specs.Calls.{Pulled}
use Rattle.law.proofs.Promises.{pull_carries}
use Rattle.shelf.specs.Missing.{is_full}
use Rattle.shelf.specs.Rosters.{Rostered, taken_out, out_of, shelf_on}
use Rattle.shelf.specs.Checks.{pulling}
use Rattle.shelf.specs.Promises.{PullsOn, PullCarries}
use Rattle.shelf.proofs.Missing.{at_most_one, added_out}

pulled : (r : Rostered) (c : ℕ) → pulling r c ≡ Ok tt → Pulled r.width (out_of r) c (out_of (taken_out r c))
pulled r c e =
    let room : is_full r.missing ≡ false = grind (arith, nat_tests) in
    record {
      column = grind (arith, nat_tests);
      was_in = grind (arith, nat_tests);
      room = at_most_one r.missing room;
      after = λ x. added_out r.missing c x room;
    }

module _ (r r' : Rostered) (c : ℕ) where
  pub pull_kept : (answer : Result (Unit {0}) Fault) → answer ≡ pulling r c → r' ≡ if_ok answer (taken_out r c) r → PullsOn r c answer r'
  pull_kept (Ok u) e f =
      let p = pulled r c (sym e) in
      record { column = p.column; was_in = p.was_in; room = p.room; after = λ x. ap (λ t. out_of t x) f ∙ p.after x }
  pull_kept (Err u) e f = ap out_of f

  pub pull_goes_on : (answer : Result (Unit {0}) Fault) → PullsOn r c answer r' → PullCarries r c answer r'
  pull_goes_on answer h m sized = pull_carries r.width (published r.width) r.size (shelf_on r m sized) (shelf_on r' m sized) c answer h refl
