use Rattle.std.proofs.Common.{length, ap, ◌∙◌, arith}
use Rattle.code.specs.Neighbours.{published}
use Rattle.law.specs.Holding.{held}
use Rattle.shelf.specs.Reading.{part}
use Rattle.shelf.proofs.Benching.{kept_none, kept_then}
use Rattle.shelf.proofs.Gathering.{column_none, column_more, sums_none, part_none, row_added, ready_still}
use Rattle.shelf.proofs.bench.Bench.gather_column.Goals as goal

pub loop-row-init : goal.loop-row-init
loop-row-init g c =
    let m = g.T.Tray.meaning c.args.tray.now in
    let s = c.args.self.now in (
      column_none m c.args.column (g.T.Tray.wraps c.args.tray.now),
      record {
        kept = kept_none s;
        work = sums_none s.k.number (published s.k.number) (length s.block.now) s.work.now (λ b. part c.args.column 0 (held m b)) (λ b i j. part_none c.args.column i j (held m b));
      },
    )

pub fetch_block-requires : goal.fetch_block-requires
fetch_block-requires g c =
    let s = c.args.self.now in
    let e = c.rows-row-end.ensures.value in
    rw c.loop-row.invariant.1.kept.size (ready_still s.k.number (length s.block.now) _ _ _ c.args.column c.loop-row.row c.loop-row.invariant.0 c.requires.answers (omega arith))

pub loop-row-preserved : goal.loop-row-preserved
loop-row-preserved g c =
    let m = g.T.Tray.meaning c.args.tray.now in
    let s = c.args.self.now in
    let j = c.args.column in
    let n = c.loop-row.row in
    let h = c.loop-row.invariant.1 in
    let read = c.fetch_block.ensures.work in
    let added = c.add_place.ensures in
    let x = c.fetch_block.new.self.block.now in
    let kept = kept_then _ _ _ h.kept read.kept in (
      c.fetch_block.ensures.tray ∙ column_more m _ j n c.loop-row.invariant.0,
      record {
        kept = kept_then _ _ _ kept added.kept;
        work = row_added s.k.number (published s.k.number) (length s.block.now) s.work.now c.loop-row.self.work.now c.add_place.new.self.work.now m j n
            (length x) x kept.size (read.block ∙ ap (λ x. x.block j n) c.loop-row.invariant.0)
            h.work (rw (kept.width, read.work) at added.work);
      },
    )
