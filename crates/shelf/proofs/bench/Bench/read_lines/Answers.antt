use Rattle.std.proofs.Common.{◌∙◌}
use Rattle.shelf.proofs.Benching.{kept_then}
use Rattle.shelf.proofs.Regaining.{reads_after}
use Rattle.shelf.proofs.Halfway.{lines_more}
use Rattle.shelf.proofs.bench.Bench.read_lines.Goals as goal

pub loop-row-preserved : goal.loop-row-preserved
loop-row-preserved g c =
    let e = c.loop-row.invariant.0 in
    let h = c.loop-row.invariant.1.kept in
    let read = c.read_if_white.ensures in (
      reads_after _ _ _ _ _ _ e (rw h.width at read.tray) (lines_more c.args.self.now.k.number c.args.lost c.loop-row.row),
      record { kept = kept_then _ _ _ h read.work.kept; block = read.work.block ∙ c.loop-row.invariant.1.block; work = rw (h.width, h.size, e) at read.work.work },
    )
