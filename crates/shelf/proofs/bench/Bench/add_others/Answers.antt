use Rattle.shelf.proofs.Benching.{kept_none, kept_then}
use Rattle.shelf.proofs.Regaining.{reads_after, once_none, once_more, others_none, others_more}
use Rattle.shelf.proofs.bench.Bench.add_others.Goals as goal

pub loop-column-init : goal.loop-column-init
loop-column-init g c =
    let m = g.T.Tray.meaning c.args.tray.now in
    (once_none m c.args.lost (g.T.Tray.wraps c.args.tray.now), record { kept = kept_none _; work = others_none _ _ _ c.args.row.0 c.args.lost m _ })

pub loop-column-preserved : goal.loop-column-preserved
loop-column-preserved g c =
    let j = c.args.lost in
    let t = c.loop-column.column in
    let e = c.loop-column.invariant.0 in
    let h = c.loop-column.invariant.1 in
    let added = c.add_other.ensures in (
      reads_after _ _ _ _ _ _ e added.tray (once_more j t),
      record { kept = kept_then _ _ _ h.kept added.work.kept; work = others_more _ _ _ _ c.args.row.0 j t _ _ _ _ _ _ h.kept.size e h.work (rw h.kept.width at added.work.work) },
    )
