use Rattle.std.proofs.Common.{refl, rules}
use Rattle.lab.proofs.Pushing.{both, whole}
use Rattle.lab.proofs.line.write_line.Goals as goal

pub returns-clause-line : goal.returns-clause-line
returns-clause-line c =
    let line = whole refl (both c.push.ensures (both c.push_told.ensures c.push-2.ensures)) in
    search (rules, line)
