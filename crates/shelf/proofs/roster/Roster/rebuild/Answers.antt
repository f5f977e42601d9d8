use Rattle.std.proofs.Common.{length, Ok, sym, refl, ◌∙◌, subst}
use Rattle.std.proofs.lemmas.Result.{err_from_is_err_and}
use Rattle.shelf.specs.Promises.{RebuildsOn}
use Rattle.shelf.specs.Rosters.{roster_of}
use Rattle.shelf.proofs.Promised.{rebuild_goes_on}
use Rattle.shelf.proofs.Refilling.{rebuild_ready, rebuilt}
use Rattle.shelf.proofs.roster.Roster.rebuild.Goals as goal

pub refill-reads-requires-clause-heard : goal.refill-reads-requires-clause-heard
refill-reads-requires-clause-heard g c =
    let ok = sym c.check_rebuild.ensures ∙ c.in_ok-check_rebuild.was in
    (rebuild_ready (roster_of c.args.self.now) c.args.self.now.kept (g.T.Tray.meaning c.args.tray.now) c.args.column _ ok
    _ c.width.ensures _ (c.block.ensures ∙ c.size.ensures.value) _ c.missing.ensures).0

pub refill-reads-requires-clause-answers : goal.refill-reads-requires-clause-answers
refill-reads-requires-clause-answers g c =
    let ok = sym c.check_rebuild.ensures ∙ c.in_ok-check_rebuild.was in
    (rebuild_ready (roster_of c.args.self.now) c.args.self.now.kept (g.T.Tray.meaning c.args.tray.now) c.args.column _ ok
    _ c.width.ensures _ (c.block.ensures ∙ c.size.ensures.value) _ c.missing.ensures).1

pub returns-clause-done : goal.returns-clause-done
returns-clause-done g c =
    rebuilt (roster_of c.args.self.now) c.args.self.now.kept (g.T.Tray.meaning c.args.tray.now) c.args.column (roster_of c.put_back.new.self) c.put_back.ensures
    _ _ _ c.width.ensures _ (c.block.ensures ∙ c.size.ensures.value) _ c.missing.ensures c.refill-reads.ensures.done

pub returns-clause-carries : goal.returns-clause-carries
returns-clause-carries g c =
    let r = roster_of c.args.self.now in
    let r' = roster_of c.put_back.new.self in
    let m = g.T.Tray.meaning c.args.tray.now in
    let m' = g.T.Tray.meaning c.refill-reads.new.tray in
    let n = c.refill-reads.result in
    let done =
    rebuilt r c.args.self.now.kept m c.args.column r' c.put_back.ensures m' n c.width.result.number c.width.ensures
    (length c.block.result.now) (c.block.ensures ∙ c.size.ensures.value) c.missing.result c.missing.ensures c.refill-reads.ensures.done in
    rebuild_goes_on r m m' (g.T.Tray.sized c.args.tray.now) (g.T.Tray.sized c.refill-reads.new.tray) r' c.args.column (Ok n) done

pub returns-in_err-check_rebuild-clause-carries : goal.returns-in_err-check_rebuild-clause-carries
returns-in_err-check_rebuild-clause-carries g c =
    let r = roster_of c.args.self.now in
    let m = g.T.Tray.meaning c.args.tray.now in
    let sized = g.T.Tray.sized c.args.tray.now in
    let answer = c.from_residual.result in
    let p = err_from_is_err_and answer c.from_residual.ensures.1 in
    let done = subst (λ a. RebuildsOn r m c.args.column a r m) (sym p.1) (refl, refl) in
    rebuild_goes_on r m m sized sized r c.args.column answer done
