use Rattle.std.proofs.Common.{◌≡◌, length, subst, rules}
use Rattle.code.specs.Code.{rows}
use Rattle.shelf.specs.Rosters.{roster_of}
use Rattle.lab.specs.Obeying.{Filled}
use Rattle.lab.proofs.Filling.{fill_first, fill_more, rows_of_tray}
use Rattle.lab.proofs.fill.fill.Goals as goal

pub loop-row-init : goal.loop-row-init
loop-row-init g c = fill_first c.in_ok-put.ensures.value c.in_ok-put.ensures.done (g.T.Tray.sized c.put.new.tray)

pub loop-row-preserved : goal.loop-row-preserved
loop-row-preserved g c = fill_more c.loop-row.invariant c.in_ok-put-2.ensures.done (g.T.Tray.sized c.put-in-loop-row.new.tray)

pub returns-clause-done : goal.returns-clause-done
returns-clause-done g c =
    let r = roster_of c.args.roster.now in
    let tall = rows_of_tray r (length c.args.work.now) c.in_ok-put.ensures.value c.in_ok-put.ensures.done in
    let all : c.loop-row.row ≡ rows r.width = search (rules, tall) in
    subst (λ n. Filled r c.args.column c.args.block.now (g.T.Tray.meaning c.args.tray.now) n (g.T.Tray.meaning c.loop-row.tray)) all c.loop-row.invariant.filled
