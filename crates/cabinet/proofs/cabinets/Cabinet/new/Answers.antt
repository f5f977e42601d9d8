use Rattle.std.proofs.Common.{vec_items, ◌∙◌, ap₂}
use Rattle.cabinet.specs.Cabinets.{cabinet_meaning}
use Rattle.cabinet.proofs.Stock.{held_fresh, counts_fresh, stocked_fresh}
use Rattle.cabinet.proofs.Steps.{blank_new}
use Rattle.cabinet.proofs.cabinets.Cabinet.new.Goals as goal

pub invariant_of-result : goal.invariant_of-result
invariant_of-result c =
    let s = c.args.shape in
    let made = c.in_ok-drawers.ensures in
    record { stocked = stocked_fresh s.columns s.rows s.size (vec_items c.in_ok-drawers.drawers) made.many made.fresh }

pub returns : goal.returns
returns c =
    let s = c.args.shape in
    let made = c.in_ok-drawers.ensures in
    let drawers = vec_items c.in_ok-drawers.drawers in
    ap₂ (cabinet_meaning s.columns s.rows s.size) (held_fresh s.columns s.rows s.size drawers made.many made.fresh) (counts_fresh s.columns s.rows s.size drawers made.many made.fresh)
    ∙ blank_new s.columns s.rows s.size
