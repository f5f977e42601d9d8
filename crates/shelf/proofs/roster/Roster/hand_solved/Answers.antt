use Rattle.std.proofs.Common.{length, ◌∙◌, subst, rules}
use Rattle.code.specs.Neighbours.{Tournament, published}
use Rattle.code.proofs.Limits.{law_of_width}
use Rattle.shelf.specs.Rosters.{roster_of}
use Rattle.shelf.proofs.Handing.{calm_reads, not_sole, solved_hand}
use Rattle.shelf.proofs.roster.Roster.hand_solved.Goals as goal

pub recover-by-requires : goal.recover-by-requires
recover-by-requires g c =
    record {
      heard = rw (c.width-k.ensures, c.missing.ensures) c.requires.reach.heard;
      columns = rw (c.width-k.ensures, c.missing.ensures) c.requires.reach.columns;
      several = rw (c.width-k.ensures, c.missing.ensures) (not_sole (roster_of c.args.self.now).width (roster_of c.args.self.now).missing c.requires.full);
    }

pub copy_slot-requires : goal.copy_slot-requires
copy_slot-requires g c = rw c.recover-by.ensures.work.kept.width c.slot_for.ensures.within

pub returns : goal.returns
returns g c =
    let k = (roster_of c.args.self.now).width in
    let out = (roster_of c.args.self.now).missing in
    let size = length c.args.block.now in
    let m = g.T.Tray.meaning c.args.tray.now in
    let kept = c.recover-by.ensures.work.kept in
    let law = subst (λ n. Tournament n (published n)) c.width-k.ensures (law_of_width c.width-k.result.number c.width-k.result.valid) in
    let here =
    solved_hand k (published k) law size out m c.args.column c.args.row.0 c.args.work.now c.requires.reach
    c.requires.missing c.requires.full c.recover-by.result c.slot_for.result c.recover-by.new.self.work.now c.copy_slot.new.self.block.now
    (rw (c.width-k.ensures, c.missing.ensures) at c.recover-by.ensures.work.work) (rw c.width-k.ensures at c.slot_for.ensures.value) (c.copy_slot.ensures.kept.size ∙ kept.size)
    (rw kept.size at c.copy_slot.ensures.block) in
    record {
      at_hand = search (rules, here);
      calm = calm_reads m _ _ c.recover-by.ensures.tray;
    }
