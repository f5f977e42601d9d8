use Rattle.std.proofs.Common.{rules}
use Rattle.lab.proofs.Running.{runs_split}
use Rattle.lab.proofs.shelf_lab.Lab.run.Goals as goal

pub returns-clause-done : goal.returns-clause-done
returns-clause-done c =
    runs_split c.args.script.now (search rules)
    (record { answer = _; turns = c.turn.ensures.done; told = record { many = c.write_line-len.ensures.len; text = c.write_line-len.ensures.line } })
