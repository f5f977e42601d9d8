use Rattle.std.proofs.Common.{length, sym, ◌∙◌}
use Rattle.code.specs.Neighbours.{published}
use Rattle.code.proofs.Limits.{law_of_width}
use Rattle.shelf.proofs.Ranks.{settle_next, no_right}
use Rattle.shelf.proofs.bench.Bench.settle_at.Goals as goal

pub returns-then-rank_of-at : goal.returns-then-rank_of-at
returns-then-rank_of-at c =
    let s = c.args.self.now in
    let k = s.k.number in
    record {
      kept = c.settle.ensures.kept;
      work = λ D. settle_next k (published k) (law_of_width k s.k.valid) (no_right k) c.args.p c.args.q c.requires.pair (length s.block.now) D c.args.at c.args.row.0 c.requires.row
          (sym c.rank_of.ensures ∙ c.if-rank_of-at.true) s.work.now c.settle.new.self.work.now c.settle.ensures.work;
    }
