use Rattle.std.proofs.Common.{cond, eqb, get_or, ap, ◌∙◌, length, arith}
use Rattle.shelf.specs.Slots.{slot}
use Rattle.shelf.proofs.Adding.{has_slot}
use Rattle.shelf.proofs.Indices.{slot_put}
use Rattle.shelf.proofs.bench.Bench.fetch_slot.Goals as goal

pub returns-clause-work : goal.returns-clause-work
returns-clause-work g c = λ t b l.
    let s = c.args.self.now in
    slot_put (length s.block.now) s.work.now c.args.slot c.fetch.new.block (has_slot s.k.number _ _ s.room c.args.slot c.requires.within) (omega arith) t b l
    ∙ ap (λ x. cond (eqb t c.args.slot) (get_or x b 0) (slot (length s.block.now) s.work.now t b)) c.fetch.ensures.block
