-- Each theorem is proved in a file of its own subject.
use Rattle.law.proofs.laws.laws_hold.Goals as goal
use Rattle.law.proofs.Shelves.{law_of_shelves}
use Rattle.law.proofs.Promises.{calls_go_on}
use Rattle.law.proofs.Tallies.{sources_are_k}
use Rattle.law.proofs.Pinned.{some_blocks, at_hand_is_pinned}
use Rattle.law.proofs.Possible.{calls_can_be_kept}

pub returns : goal.returns
returns c =
    record {
      law_of_shelves = law_of_shelves;
      calls_go_on = calls_go_on;
      sources_are_k = sources_are_k;
      some_blocks = some_blocks;
      at_hand_is_pinned = at_hand_is_pinned;
      calls_can_be_kept = calls_can_be_kept;
    }
