use Rattle.std.proofs.Common.{◌≡◌, length, arith}
use Rattle.code.specs.Neighbours.{published}
use Rattle.code.specs.Code.{rows}
use Rattle.code.proofs.Limits.{law_of_width}
use Rattle.shelf.proofs.Ranks.{next_rank, no_right}
use Rattle.shelf.proofs.bench.Bench.settle_rank.Goals as goal

pub returns : goal.returns
returns c =
    let s = c.args.self.now in
    let k = s.k.number in
    let r = c.rows-row-end.ensures.value in
    let e : c.loop-row.row ≡ rows k = omega arith in
    let h = c.loop-row.invariant in
    record {
      kept = h.kept;
      work = λ D old.
          next_rank k (published k) (law_of_width k s.k.valid) (no_right k) c.args.p c.args.q c.requires (length s.block.now) D c.args.at c.loop-row.row e
          c.loop-row.self.work.now (h.work D old);
    }
