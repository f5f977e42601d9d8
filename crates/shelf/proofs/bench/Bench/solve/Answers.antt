use Rattle.std.proofs.Common.{◌≡◌, ◌+◌, ◌*◌, length, arith}
use Rattle.code.specs.Neighbours.{published}
use Rattle.code.proofs.Limits.{law_of_width}
use Rattle.shelf.proofs.Ranks.{last_rank, no_right}
use Rattle.shelf.proofs.bench.Bench.solve.Goals as goal

pub returns : goal.returns
returns c =
    let s = c.args.self.now in
    let k = s.k.number in
    let e : c.loop-at.at ≡ 2 * k + 2 = omega arith in
    let h = c.loop-at.invariant in
    record {
      kept = h.kept;
      work = λ D old.
          last_rank k (published k) (law_of_width k s.k.valid) (no_right k) c.args.p c.args.q c.requires (length s.block.now) D
          c.loop-at.self.work.now (rw e at h.work D old);
    }
