use Rattle.std.proofs.Common.{◌≡◌, length, arith}
use Rattle.shelf.proofs.Indices.{slot_added}
use Rattle.shelf.proofs.slots.add.Goals as goal

pub returns : goal.returns
returns c =
    let e : c.loop-i.i ≡ length c.args.block.now = omega arith in
    slot_added (length c.args.block.now) c.args.work.now c.args.slot c.args.block.now c.loop-i.work
    (rw e at c.loop-i.invariant)
