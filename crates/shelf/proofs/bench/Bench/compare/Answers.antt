use Rattle.std.proofs.Common.{length, ap}
use Rattle.code.specs.Neighbours.{published}
use Rattle.shelf.proofs.Sweeping.{sums_of_all, finding}
use Rattle.shelf.proofs.bench.Bench.compare.Goals as goal

pub returns-clause-found : goal.returns-clause-found
returns-clause-found g c =
    let m = g.T.Tray.meaning c.args.tray.now in
    let s = c.args.self.now in
    let k = s.k.number in
    let size = length s.block.now in
    let h = c.gather.ensures in
    finding k (published k) size m _ _ (sums_of_all k (published k) size m _ h.work.work)
    (ap (λ t. t.block) h.tray) c.first_misfit.result
    (rw (h.work.kept.width, h.work.kept.size) at c.first_misfit.ensures.found)
