use Rattle.std.proofs.Common.{arith}
use Rattle.std.proofs.lemmas.Grind.{common_steps}
use Rattle.tray.specs.FlatTrays.{flat_of}
use Rattle.lab.specs.Labs.{held}
use Rattle.lab.proofs.Obeying.{rehearsal_refused}
use Rattle.lab.proofs.obey.obey.Goals as goal

pub returns-in_err-rehearse-in-Drill-clause-done : goal.returns-in_err-rehearse-in-Drill-clause-done
returns-in_err-rehearse-in-Drill-clause-done c =
    let s = held c.args.roster.now c.args.tray.now in
    let left =
    rehearsal_refused s.roster s.tray c.from-drilled.result c.numbers-column-in-Drill.result.0 c.numbers-column-in-Drill.result.1 c.args.block.now
    c.rehearse.new.block (flat_of c.rehearse.new.tray) c.in_err-rehearse-in-Drill.field-0.0 c.in_err-rehearse-in-Drill.ensures.done in
    grind (arith, common_steps, left)
