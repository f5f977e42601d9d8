use Rattle.lab.proofs.Pushing.{both}
use Rattle.lab.proofs.line.Line.push_place.Goals as goal

pub returns : goal.returns
returns c = both c.push_number_or_dash.ensures (both c.push.ensures c.push_number_or_dash-2.ensures)
