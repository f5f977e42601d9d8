use Rattle.shelf.proofs.Benching.{kept_then}
use Rattle.shelf.proofs.Regaining.{reads_after}
use Rattle.shelf.proofs.Halfway.{rows_more}
use Rattle.shelf.proofs.bench.Bench.regain_rows.Goals as goal

pub loop-row-preserved : goal.loop-row-preserved
loop-row-preserved g c =
    let e = c.loop-row.invariant.0 in
    let h = c.loop-row.invariant.1.kept in
    let found = c.regain_if_dark.ensures in (
      reads_after _ _ _ _ _ _ e (rw h.width at found.tray) (rows_more c.args.self.now.k.number c.args.lost c.loop-row.row),
      record { kept = kept_then _ _ _ h found.work.kept; work = rw (h.width, h.size, e) at found.work.work },
    )
