use Rattle.std.proofs.Common.{◌<◌, length, vec_items, ap, ◌∙◌, arith}
use Rattle.std.proofs.lemmas.List.Edits.{length-paste}
use Rattle.cabinet.proofs.Stock.{still_stocked}
use Rattle.cabinet.proofs.Steps.{block_fits, drawer_written}
use Rattle.cabinet.proofs.cabinets.Cabinet.store.Goals as goal

pub store-requires : goal.store-requires
store-requires c = block_fits c.args.self.now c.args.column c.requires.column c.index_mut.result.now c.index_mut.ensures.value c.args.row _ c.requires.row c.requires.size

pub invariant_of-self : goal.invariant_of-self
invariant_of-self c =
    let t = c.args.self.now in
    let d = c.index_mut.result.now in
    let inside : c.args.column < length (vec_items t.drawers) = omega (arith, c.requires.column, t.stocked.0) in
    let fits = block_fits t c.args.column c.requires.column d c.index_mut.ensures.value c.args.row _ c.requires.row c.requires.size in
    let long = length-paste (vec_items d.bytes) _ c.args.block.now (length c.args.block.now) (omega (arith, fits, d.bytes.ok.0)) (omega arith) in
    record { stocked = still_stocked (vec_items t.drawers) c.args.column inside d c.index_mut.ensures.value c.store.new.self t.shape t.stocked (ap length c.store.ensures.bytes ∙ long) }

pub returns : goal.returns
returns c = drawer_written c.args.self.now c.args.column c.requires.column c.index_mut.result.now c.index_mut.ensures.value c.store.new.self c.args.row c.args.block.now c.requires.row c.requires.size c.store.ensures.bytes c.store.ensures.reads
