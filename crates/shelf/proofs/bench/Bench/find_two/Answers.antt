use Rattle.std.proofs.Common.{length, inl, inr, arith}
use Rattle.code.specs.Neighbours.{published}
use Rattle.shelf.specs.declared.roster.missing.Missing.TheVariants.{Two}
use Rattle.shelf.proofs.Benching.{kept_none}
use Rattle.shelf.proofs.Recovered.{found_parities, either_way, which_of}
use Rattle.shelf.proofs.bench.Bench.find_two.Goals as goal

pub returns-then-b-k : goal.returns-then-b-k
returns-then-b-k c =
    let s = c.args.self.now in
    let k = s.k.number in
    record {
      kept = kept_none s;
      work = found_parities k (published k) (length s.block.now) (Two c.args.a c.args.b)
          (λ x o. elim (which_of k c.args.a c.args.b x o) [ inl e ↦ omega arith | inr e ↦ omega arith ]) s.work.now;
    }

pub returns-then-a-k-2 : goal.returns-then-a-k-2
returns-then-a-k-2 c =
    let s = c.args.self.now in
    let k = s.k.number in
    let found = c.find_with_parity-then-a-k-2.ensures in
    record { kept = found.kept; work = either_way k (published k) (length s.block.now) c.args.a c.args.b s.work.now _ _ found.work }
