use Rattle.tray.proofs.FlatSteps.{flat_new}
use Rattle.tray.proofs.flat.Flat.renew.Goals as goal

pub returns-clause-after : goal.returns-clause-after
returns-clause-after c = flat_new c.args.shape c.args.self.now.cells.now
