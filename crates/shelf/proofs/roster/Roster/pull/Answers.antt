use Rattle.std.proofs.Common.{◌≡◌, Ok, sym, ap, ◌∙◌, rules}
use Rattle.shelf.specs.Rosters.{Rostered, roster_of, taken_out}
use Rattle.shelf.proofs.Pulling.{pull_kept, pull_goes_on}
use Rattle.shelf.proofs.roster.Roster.pull.Goals as goal

pub returns-clause-carries : goal.returns-clause-carries
returns-clause-carries c =
    let r = roster_of c.args.self.now in
    let r' : Rostered = record { width = r.width; size = r.size; missing = c.with-self.result } in
    let value = sym c.in_ok-check_pull.was ∙ c.check_pull.ensures in
    let after : r' ≡ taken_out r c.args.column = ap (λ m. record { width = r.width; size = r.size; missing = m }) c.with-self.ensures in
    let done = pull_kept r r' c.args.column (Ok tt) value after in
    pull_goes_on r r' c.args.column (Ok tt) done

pub returns-in_err-check_pull-clause-carries : goal.returns-in_err-check_pull-clause-carries
returns-in_err-check_pull-clause-carries c =
    pull_goes_on (roster_of c.args.self.now) (roster_of c.args.self.now) c.args.column c.from_residual.result (search rules)
