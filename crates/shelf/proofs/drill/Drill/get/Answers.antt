use Rattle.shelf.specs.Rosters.{roster_of}
use Rattle.shelf.proofs.Promised.{get_goes_on_inside}
use Rattle.shelf.proofs.drill.Drill.get.Goals as goal

pub returns-clause-carries : goal.returns-clause-carries
returns-clause-carries g c =
    let h = c.get.ensures in
    get_goes_on_inside (roster_of c.args.self.now.roster.now) (g.T.Tray.meaning c.args.tray.now) (g.T.Tray.meaning c.get.new.tray)
    (g.T.Tray.sized c.args.tray.now) (g.T.Tray.sized c.get.new.tray) c.args.column c.args.row c.args.block.now c.get.new.block c.get.result h.done
