use Rattle.std.proofs.Common.{length, Ok, sym, ◌∙◌}
use Rattle.std.proofs.lemmas.Result.{err_from_is_err_and}
use Rattle.shelf.specs.Rosters.{roster_of}
use Rattle.shelf.proofs.Promised.{get_goes_on}
use Rattle.shelf.proofs.Reaching.{in_reach, got, get_refused}
use Rattle.shelf.proofs.roster.Roster.get.Goals as goal

pub hand-requires : goal.hand-requires
hand-requires g c =
    in_reach (roster_of c.args.self.now) (g.T.Tray.meaning c.args.tray.now) c.args.column c.args.row (length c.args.block.now) c.args.work.now
    (sym c.check_place.ensures ∙ c.in_ok-check_place.was) c.args.self.now.kept

pub returns-clause-done : goal.returns-clause-done
returns-clause-done g c =
    let r = roster_of c.args.self.now in
    let m = g.T.Tray.meaning c.args.tray.now in
    let m' = g.T.Tray.meaning c.hand.new.tray in
    let ok = sym c.check_place.ensures ∙ c.in_ok-check_place.was in
    let done =
    got r m c.args.column c.args.row (length c.args.block.now) c.args.work.now ok c.hand.new.block m'
    c.hand.ensures.at_hand c.hand.ensures.calm c.hand.ensures.one_read in
    done

pub returns-clause-carries : goal.returns-clause-carries
returns-clause-carries g c =
    let r = roster_of c.args.self.now in
    let m = g.T.Tray.meaning c.args.tray.now in
    let m' = g.T.Tray.meaning c.hand.new.tray in
    let ok = sym c.check_place.ensures ∙ c.in_ok-check_place.was in
    let done =
    got r m c.args.column c.args.row (length c.args.block.now) c.args.work.now ok c.hand.new.block m'
    c.hand.ensures.at_hand c.hand.ensures.calm c.hand.ensures.one_read in
    get_goes_on r m m' (g.T.Tray.sized c.args.tray.now) (g.T.Tray.sized c.hand.new.tray) c.args.column c.args.row c.args.block.now c.hand.new.block (Ok tt) done

pub returns-in_err-check_place-clause-carries : goal.returns-in_err-check_place-clause-carries
returns-in_err-check_place-clause-carries g c =
    let r = roster_of c.args.self.now in
    let m = g.T.Tray.meaning c.args.tray.now in
    let sized = g.T.Tray.sized c.args.tray.now in
    let answer = c.from_residual.result in
    let p = err_from_is_err_and answer c.from_residual.ensures.1 in
    let done = get_refused r m c.args.column c.args.row p.0 c.args.block.now answer p.1 in
    get_goes_on r m m sized sized c.args.column c.args.row c.args.block.now c.args.block.now answer done
