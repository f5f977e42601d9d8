use Rattle.shelf.specs.Rosters.{roster_of}
use Rattle.shelf.proofs.Pulling.{pull_kept}
use Rattle.shelf.proofs.Drilling.{drill_undone, drill_goes_on}
use Rattle.shelf.proofs.roster.Roster.drill.Goals as goal

pub returns-clause-carries : goal.returns-clause-carries
returns-clause-carries c =
    let r = roster_of c.args.self.now in
    let after = roster_of c.pull-taken.new.self in
    let h = c.pull-taken.ensures in
    let kept = pull_kept r after c.args.column c.pull-taken.result h.value h.after in
    let undone = drill_undone r after c.args.column c.pull-taken.result h.value h.after in
    drill_goes_on r after c.args.column c.pull-taken.result kept undone
