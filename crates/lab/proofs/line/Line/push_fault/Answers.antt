use Rattle.std.proofs.Common.{◌∙◌}
use Rattle.lab.proofs.Pushing.{both}
use Rattle.lab.proofs.line.Line.push_fault.Goals as goal

pub returns : goal.returns
returns c =
    let number = rw (c.from.ensures ∙ c.number.ensures) at c.push_number.ensures in
    both c.push.ensures (both number (both c.push-2.ensures (both c.push_layer.ensures (both c.push-3.ensures c.push_place.ensures))))
