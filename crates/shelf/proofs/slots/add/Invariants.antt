use Rattle.shelf.specs.Slots.{AddedUpTo}
use Rattle.shelf.proofs.slots.add.Given as goal

abbrev pub invariant-loop-i : goal.invariant-loop-i
invariant-loop-i l = AddedUpTo l.initial.work l.at l.block l.i l.work
