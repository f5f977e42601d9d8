use Rattle.std.proofs.Common.{rules}
use Rattle.tray.proofs.FlatSteps.{fitted, flat_switched}
use Rattle.tray.proofs.flat.Flat.switch.Goals as goal

pub returns-clause-after : goal.returns-clause-after
returns-clause-after c =
    let t = c.args.self.now in
    let s = t.shape in
    let room = fitted t c.args.column (search rules) in
    rw (c.switch.ensures, room) (flat_switched s.columns s.rows s.size t.table t.cells.now c.args.column (search (rules, room)) (search rules) c.args.on)
