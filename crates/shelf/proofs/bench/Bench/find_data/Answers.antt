use Rattle.std.proofs.Common.{not, length, sym, ap, ◌∙◌, arith}
use Rattle.code.specs.Neighbours.{published}
use Rattle.code.proofs.Limits.{law_of_width}
use Rattle.shelf.proofs.Benching.{kept_then}
use Rattle.shelf.proofs.Recovered.{found_two, which_of, which_back, out_first, out_second}
use Rattle.shelf.proofs.bench.Bench.find_data.Goals as goal

pub solve-requires-else-is_right : goal.solve-requires-else-is_right
solve-requires-else-is_right c =
    let s = c.args.self.now in
    let law = law_of_width s.k.number s.k.valid in
    rw c.spread-else-is_right.ensures.kept.width (record {
      first = c.requires.b;
      second = omega arith;
      apart = λ e. c.requires.apart (sym e);
      neighbour = λ _. law.one_way c.args.a c.args.b c.requires.a c.requires.b c.requires.apart ∙ ap not (sym c.is_right.ensures ∙ c.if-is_right.false);
    })

pub returns-then-is_right : goal.returns-then-is_right
returns-then-is_right c =
    let s = c.args.self.now in
    let k = s.k.number in
    let a = c.args.a in
    let b = c.args.b in
    let spread = c.spread.ensures in
    record {
      kept = kept_then s c.spread.new.self c.solve.new.self spread.kept c.solve.ensures.kept;
      work = found_two k (published k) (length s.block.now) a b a b c.requires.a c.requires.b c.requires.a c.requires.b c.requires.apart (which_of k a b) (out_first k a b) (out_second k a b)
          s.work.now c.spread.new.self.work.now c.solve.new.self.work.now spread.work (length c.spread.new.self.block.now) spread.kept.size (rw spread.kept.width at c.solve.ensures.work);
    }

pub returns-else-is_right : goal.returns-else-is_right
returns-else-is_right c =
    let s = c.args.self.now in
    let k = s.k.number in
    let a = c.args.a in
    let b = c.args.b in
    let spread = c.spread-else-is_right.ensures in
    let solve = c.solve-else-is_right.ensures in
    record {
      kept = kept_then s c.spread-else-is_right.new.self c.solve-else-is_right.new.self spread.kept solve.kept;
      work = found_two k (published k) (length s.block.now) a b b a c.requires.a c.requires.b c.requires.b c.requires.a (λ e. c.requires.apart (sym e)) (which_back k a b) (out_second k a b) (out_first k a b)
          s.work.now c.spread-else-is_right.new.self.work.now c.solve-else-is_right.new.self.work.now spread.work (length c.spread-else-is_right.new.self.block.now) spread.kept.size (rw spread.kept.width at solve.work);
    }
