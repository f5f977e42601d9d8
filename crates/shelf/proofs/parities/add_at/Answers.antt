use Rattle.std.proofs.Common.{length, get_or, subst}
use Rattle.shelf.specs.Regaining.{BytesAdded}
use Rattle.shelf.proofs.OneBlock.{one_slot}
use Rattle.shelf.proofs.Changing.{added_back}
use Rattle.shelf.proofs.parities.add_at.Goals as goal

pub returns : goal.returns
returns g c =
    let m = g.T.Tray.meaning c.args.tray.now in
    let x = c.args.block.now in
    let changed = one_slot (length x) c.fetch.new.block x c.add.new.work c.add.ensures in
    added_back (length x) m x c.args.column c.args.row (g.T.Tray.meaning c.fetch.new.tray) _ c.add.new.work c.fetch.ensures.tray
    (subst (λ was. BytesAdded (length x) was (λ b. get_or x b 0) c.add.new.work) c.fetch.ensures.block changed) c.place.ensures
