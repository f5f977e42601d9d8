use Rattle.std.proofs.Common.{◌≡◌, length, get_or, sym, ap, ◌∙◌, subst, arith}
use lib.Bits.{bit_xor}
use Rattle.code.proofs.Xor.{only_true, only_false}
use Rattle.law.specs.Holding.{held}
use Rattle.shelf.specs.Slots.{SlotAdded}
use Rattle.shelf.proofs.OneBlock.{one_slot, bytes_none}
use Rattle.shelf.proofs.regain.add_if.Goals as goal

pub returns-then-wanted-clause-block : goal.returns-then-wanted-clause-block
returns-then-wanted-clause-block g c =
    let m = g.T.Tray.meaning c.args.tray.now in
    let was = c.args.block.now in
    let x = c.fetch.new.block in
    let i = c.args.row.0 in
    let j = c.args.column in
    let e : length x ≡ length was = omega arith in
    λ b bl.
    one_slot (length was) was x c.add.new.work (subst (λ s. SlotAdded s was 0 x c.add.new.work) e c.add.ensures) b bl
    ∙ ap (bit_xor (get_or was b 0)) (ap (λ y. get_or y b 0) c.fetch.ensures.block ∙ sym (only_true c.args.wanted (held m b i j) c.if-wanted.true))

pub returns-else-wanted-clause-block : goal.returns-else-wanted-clause-block
returns-else-wanted-clause-block g c =
    let m = g.T.Tray.meaning c.args.tray.now in
    bytes_none (length c.args.block.now) c.args.block.now _ (λ b. only_false c.args.wanted (held m b c.args.row.0 c.args.column) c.if-wanted.false)
