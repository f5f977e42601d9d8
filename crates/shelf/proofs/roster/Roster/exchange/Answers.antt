use Rattle.std.proofs.Common.{◌≡◌, length, refl, subst, arith}
use Rattle.code.specs.Neighbours.{published}
use Rattle.law.specs.Hand.{AtHand}
use Rattle.shelf.specs.Rosters.{roster_of, out_of}
use Rattle.shelf.specs.Parities.{AddedAt, parities_of}
use Rattle.shelf.proofs.OneBlock.{one_slot}
use Rattle.shelf.proofs.Exchanging.{exchanged}
use Rattle.shelf.proofs.roster.Roster.exchange.Goals as goal

pub returns : goal.returns
returns g c =
    let r = roster_of c.args.self.now in
    let k = r.width in
    let out = out_of r in
    let m = g.T.Tray.meaning c.args.tray.now in
    let m' = g.T.Tray.meaning c.hand.new.tray in
    let m'' = g.T.Tray.meaning c.write_served.new.tray in
    let m''' = g.T.Tray.meaning c.add_to_parities.new.tray in
    let i = c.args.row.0 in
    let j = c.args.column in
    let x = c.args.block.now in
    let v = c.hand.new.block in
    let change = c.add.new.work in
    let as_long : length c.args.change.now ≡ length x = c.requires.change in
    let long : length change ≡ length x = omega arith in
    exchanged k (published k) (length x) out m m' m'' m''' j i x v change c.requires.reach.column c.requires.reach.row refl
    (subst (λ n. AtHand k (published k) n out m i j v) as_long c.hand.ensures.at_hand) c.hand.ensures.calm
    (one_slot (length x) v x change c.add.ensures)
    c.write_served.ensures (subst (λ n. AddedAt n m'' change (parities_of k (published k) out i j) m''') long c.add_to_parities.ensures)
