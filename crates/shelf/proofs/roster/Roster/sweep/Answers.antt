use Rattle.std.proofs.Common.{length, Ok, sym, refl, ◌∙◌, subst}
use Rattle.std.proofs.lemmas.Result.{err_from_is_err_and}
use Rattle.shelf.specs.Promises.{SweepsOn}
use Rattle.shelf.specs.Rosters.{roster_of}
use Rattle.shelf.proofs.Promised.{sweep_goes_on}
use Rattle.shelf.proofs.Sweeping.{sweep_ready, swept}
use Rattle.shelf.proofs.roster.Roster.sweep.Goals as goal

pub compare-requires : goal.compare-requires
compare-requires g c =
    sweep_ready (roster_of c.args.self.now) (g.T.Tray.meaning c.args.tray.now) _ (sym c.check_sweep.ensures ∙ c.in_ok-check_sweep.was)
    _ c.width.ensures _ (c.block.ensures ∙ c.size.ensures.value)

pub returns-clause-carries : goal.returns-clause-carries
returns-clause-carries g c =
    let r = roster_of c.args.self.now in
    let m = g.T.Tray.meaning c.args.tray.now in
    let m' = g.T.Tray.meaning c.compare.new.tray in
    let found = c.compare.result in
    let ok = sym c.check_sweep.ensures ∙ c.in_ok-check_sweep.was in
    let done =
    swept r m (length c.args.work.now) ok m' found c.width.result.number c.width.ensures (length c.block.result.now)
    (c.block.ensures ∙ c.size.ensures.value) c.compare.ensures.tray c.compare.ensures.found in
    sweep_goes_on r m m' (g.T.Tray.sized c.args.tray.now) (g.T.Tray.sized c.compare.new.tray) (Ok found) done

pub returns-in_err-check_sweep-clause-carries : goal.returns-in_err-check_sweep-clause-carries
returns-in_err-check_sweep-clause-carries g c =
    let r = roster_of c.args.self.now in
    let m = g.T.Tray.meaning c.args.tray.now in
    let sized = g.T.Tray.sized c.args.tray.now in
    let answer = c.from_residual.result in
    let p = err_from_is_err_and answer c.from_residual.ensures.1 in
    let done = subst (λ a. SweepsOn r m a m) (sym p.1) refl in
    sweep_goes_on r m m sized sized answer done
