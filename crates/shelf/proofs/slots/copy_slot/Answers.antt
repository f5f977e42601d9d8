use Rattle.std.proofs.Common.{arith}
use Rattle.std.proofs.lemmas.List.{places}
use Rattle.shelf.specs.Slots.{slot}
use Rattle.shelf.proofs.slots.copy_slot.Goals as goal

pub returns : goal.returns
unfolding slot
returns c = λ b l. grind (arith, places)
