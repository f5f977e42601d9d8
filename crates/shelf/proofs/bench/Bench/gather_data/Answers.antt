use Rattle.std.proofs.Common.{ℕ, ◌+◌, cond, length, sym, ap, ◌∙◌}
use Rattle.code.specs.Code.{rows}
use Rattle.code.specs.Neighbours.{published}
use Rattle.law.specs.Holding.{held}
use Rattle.shelf.specs.Missing.{is_out}
use Rattle.shelf.specs.Reading.{after_reads, times, each_below, served}
use Rattle.shelf.proofs.Benching.{kept_none, kept_then}
use Rattle.shelf.proofs.Gathering.{reads_none, reads_same, reads_reads, sums_none, each_none, each_more, served_none, column_added}
use Rattle.shelf.proofs.bench.Bench.gather_data.Goals as goal

pub loop-column-init : goal.loop-column-init
loop-column-init g c =
    let m = g.T.Tray.meaning c.args.tray.now in
    let s = c.args.self.now in
    let k = s.k.number in
    let out = is_out c.args.out in (
      reads_none m (g.T.Tray.wraps c.args.tray.now) ∙ reads_same m (λ _. 0) (each_below out (rows k) 0) (λ x. sym (each_none out (rows k) x)),
      record { kept = kept_none s; work = sums_none k (published k) (length s.block.now) s.work.now (λ b. served out 0 (held m b)) (λ b i x. served_none out (held m b) i x) },
    )

pub loop-column-preserved : goal.loop-column-preserved
loop-column-preserved g c =
    let m = g.T.Tray.meaning c.args.tray.now in
    let s = c.args.self.now in
    let k = s.k.number in
    let j = c.loop-column.column in
    let out = is_out c.args.out in
    let h = c.loop-column.invariant.1 in
    let f : ℕ → ℕ = each_below out (rows k) j in (
      (rw h.kept.width at c.gather_served.ensures.tray) ∙ ap (λ x. after_reads x (times j (cond (out j) 0 (rows k)))) c.loop-column.invariant.0
          ∙ reads_reads m f (times j (cond (out j) 0 (rows k))) ∙ reads_same m _ (each_below out (rows k) (j + 1)) (each_more out (rows k) j),
      record {
        kept = kept_then s c.loop-column.self c.gather_served.new.self h.kept c.gather_served.ensures.work.kept;
        work = column_added k (published k) (length s.block.now) s.work.now c.loop-column.self.work.now c.gather_served.new.self.work.now m _ f out j
            (length c.loop-column.self.block.now) h.kept.size c.loop-column.invariant.0 h.work (rw h.kept.width at c.gather_served.ensures.work.work);
      },
    )
