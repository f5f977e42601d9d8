use Rattle.std.proofs.Common.{◌<◌, arith}
use Rattle.tray.specs.SplitTrays.{split_of}
use Rattle.tray.proofs.Halves.{whole_step, tallied_right}
use Rattle.tray.proofs.split.SplitTray.read.Goals as goal

pub returns-in-Right-clause-after : goal.returns-in-Right-clause-after
returns-in-Right-clause-after g c =
    let l = g.L.Tray.meaning c.args.self.now.left in
    let r = g.R.Tray.meaning c.args.self.now.right in
    let known : c.args.column < (split_of l r).columns = omega (arith, c.in_ok-check_place.ensures.ready.column, c.shape.ensures.columns) in
    whole_step l r _ _ _ c.args.column _ _ (tallied_right l r c.args.column _ known c.in-Right.ensures) c.read-in-Right.ensures.after c.renamed.ensures
