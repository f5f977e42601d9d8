use Rattle.tray.proofs.FlatSteps.{flat_new}
use Rattle.tray.proofs.flat.Flat.new.Goals as goal

pub returns-clause-value : goal.returns-clause-value
returns-clause-value c = flat_new c.args.shape c.args.cells.now
