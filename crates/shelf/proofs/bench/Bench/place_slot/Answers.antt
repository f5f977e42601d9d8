use Rattle.std.proofs.Common.{◌≡◌, ℕ, ◌+◌, ◌-◌, ◌*◌, length, take, drop, ap, ◌∙◌, arith}
use Rattle.tray.specs.Meaning.{stored}
use Rattle.shelf.specs.Rebuilding.{slot_block}
use Rattle.shelf.proofs.bench.Bench.place_slot.Goals as goal

pub returns : goal.returns
unfolding slot_block
returns g c =
    let s = c.args.self.now in
    let at = c.args.slot * length s.block.now in
    let e : at + length s.block.now - at ≡ length s.block.now = omega arith in
    c.place.ensures ∙ ap (λ (n : ℕ). stored (g.T.Tray.meaning c.args.tray.now) c.args.column c.args.row (take n (drop at s.work.now))) e
