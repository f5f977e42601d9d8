use Rattle.shelf.proofs.Wiping.{ready_still}
use Rattle.shelf.proofs.layout.wipe.Goals as goal

pub wipe_column-requires : goal.wipe_column-requires
wipe_column-requires g c = λ i h. ready_still _ _ _ _ _ _ c.loop-column.invariant (c.requires c.loop-column.column i c.loop-column-test.true h)
