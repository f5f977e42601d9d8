use Rattle.std.proofs.Common.{◌<◌, length, vec_items, ap, arith}
use Rattle.cabinet.proofs.Stock.{still_stocked}
use Rattle.cabinet.proofs.Steps.{block_fits, drawer_read}
use Rattle.cabinet.proofs.cabinets.Cabinet.load.Goals as goal

pub load-requires : goal.load-requires
load-requires c = block_fits c.args.self.now c.args.column c.requires.column c.index_mut.result.now c.index_mut.ensures.value c.args.row _ c.requires.row c.requires.size

pub invariant_of-self : goal.invariant_of-self
invariant_of-self c =
    let t = c.args.self.now in
    let inside : c.args.column < length (vec_items t.drawers) = omega (arith, c.requires.column, t.stocked.0) in
    record { stocked = still_stocked (vec_items t.drawers) c.args.column inside c.index_mut.result.now c.index_mut.ensures.value c.load.new.self t.shape t.stocked (ap length c.load.ensures.bytes) }

pub returns-clause-after : goal.returns-clause-after
returns-clause-after c = drawer_read c.args.self.now c.args.column c.requires.column c.index_mut.result.now c.index_mut.ensures.value c.load.new.self c.load.ensures.bytes c.load.ensures.reads
