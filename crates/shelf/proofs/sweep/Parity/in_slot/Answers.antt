use Rattle.std.proofs.Common.{◌≡◌, ℕ, ◌+◌, ◌-◌, sym, ap, ◌∙◌, arith}
use Rattle.code.specs.Code.{rows}
use Rattle.shelf.proofs.Sweeping.{place_row, place_line}
use Rattle.shelf.proofs.sweep.Parity.in_slot.Goals as goal

pub returns-then-slot-rows : goal.returns-then-slot-rows
returns-then-slot-rows c =
    let k = c.args.k.number in
    sym (place_row k c.args.slot (omega arith))

pub returns-else-slot-rows : goal.returns-else-slot-rows
returns-else-slot-rows c =
    let k = c.args.k.number in
    let e : c.rows-rows.result ≡ rows k = c.rows-rows.ensures.value in
    ap (λ (n : ℕ). (k + 1, c.args.slot - n)) e ∙ sym (place_line k c.args.slot (omega arith))
