use Rattle.std.proofs.Common.{◌≡◌, ap, ◌∙◌, rules, arith}
use Rattle.tray.specs.FlatTrays.{flat_of}
use Rattle.lab.specs.Running.{tray_for}
use Rattle.lab.proofs.shelf_lab.Lab.lay_out.Goals as goal
use Rattle.lab.proofs.shelf_lab.Lab.lay_out.Goals.{in-Some, in_default}

-- A layout is accepted only on the tray that was made anew.
pub returns : goal.returns
returns c =
    let cells = c.args.self.now.tray.cells.now in
    let made : flat_of c.match-new.self.tray ≡ tray_for c.args.width c.args.size cells = elim c.match-new.branch [
      | in-Some b ↦ ap (λ l. flat_of l.tray) b.self-is ∙ (b.renew.ensures.after ∙ grind arith)
      | in_default b ↦ grind arith
    ] in
    search rules
