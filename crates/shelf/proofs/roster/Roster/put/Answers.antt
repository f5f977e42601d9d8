use Rattle.std.proofs.Common.{length, Ok, sym, ◌∙◌}
use Rattle.std.proofs.lemmas.Result.{err_from_is_err_and}
use Rattle.shelf.specs.Rosters.{roster_of}
use Rattle.shelf.proofs.Promised.{put_goes_on}
use Rattle.shelf.proofs.Reaching.{in_reach, put_at, put_refused}
use Rattle.shelf.proofs.roster.Roster.put.Goals as goal

pub exchange-requires-clause-reach : goal.exchange-requires-clause-reach
exchange-requires-clause-reach g c =
    let r = roster_of c.args.self.now in
    let m = g.T.Tray.meaning c.args.tray.now in
    let n = length c.args.block.now in
    let ok = sym c.check_place.ensures ∙ c.in_ok-check_place.was in
    in_reach r m c.args.column c.args.row n c.args.work.now ok c.args.self.now.kept

pub returns-clause-carries : goal.returns-clause-carries
returns-clause-carries g c =
    let r = roster_of c.args.self.now in
    let m = g.T.Tray.meaning c.args.tray.now in
    let m' = g.T.Tray.meaning c.exchange.new.tray in
    let x = c.args.block.now in
    let ok = sym c.check_place.ensures ∙ c.in_ok-check_place.was in
    let done = put_at r m c.args.column c.args.row (length x) c.args.work.now ok m' x c.exchange.ensures in
    put_goes_on r m m' (g.T.Tray.sized c.args.tray.now) (g.T.Tray.sized c.exchange.new.tray) c.args.column c.args.row x (Ok tt) done

pub returns-in_err-check_place-clause-carries : goal.returns-in_err-check_place-clause-carries
returns-in_err-check_place-clause-carries g c =
    let r = roster_of c.args.self.now in
    let m = g.T.Tray.meaning c.args.tray.now in
    let sized = g.T.Tray.sized c.args.tray.now in
    let answer = c.from_residual.result in
    let p = err_from_is_err_and answer c.from_residual.ensures.1 in
    let done = put_refused r m c.args.column c.args.row p.0 c.args.block.now answer p.1 in
    put_goes_on r m m sized sized c.args.column c.args.row c.args.block.now answer done
