use Rattle.std.proofs.Common.{length, sym, subst, arith}
use Rattle.code.specs.Neighbours.{published}
use Rattle.shelf.specs.declared.roster.missing.Missing.TheVariants.{Two}
use Rattle.shelf.specs.Recovering.{Finds}
use Rattle.shelf.proofs.Recovered.{found_horizontal, found_butterfly}
use Rattle.shelf.proofs.bench.Bench.find_with_parity.Goals as goal

pub returns-then-parity-k : goal.returns-then-parity-k
returns-then-parity-k c =
    let s = c.args.self.now in
    let k = s.k.number in
    record {
      kept = c.solve.ensures.kept;
      work = subst (λ x. Finds k (published k) (length s.block.now) (Two c.args.column x) s.work.now k c.solve.new.self.work.now) (sym c.if-parity-k.true)
          (found_horizontal k (published k) (length s.block.now) c.args.column c.requires.column s.work.now c.solve.new.self.work.now c.solve.ensures.work);
    }

pub returns-else-parity-k : goal.returns-else-parity-k
returns-else-parity-k c =
    let s = c.args.self.now in
    let k = s.k.number in
    record {
      kept = c.spread.ensures.kept;
      work = found_butterfly k (published k) (length s.block.now) c.args.column c.args.parity c.requires.column (omega arith) s.work.now c.spread.new.self.work.now c.spread.ensures.work;
    }
