use Rattle.std.proofs.Common.{length, sym, ap, ◌∙◌, arith, eqb-true}
use borrow.Author.Tests.{false-ltb}
use Rattle.code.specs.Neighbours.{published}
use Rattle.shelf.specs.Missing.{is_out}
use Rattle.shelf.specs.Recovering.{is_sole_data}
use Rattle.shelf.proofs.Benching.{kept_none}
use Rattle.shelf.proofs.Recovered.{found_parities}
use Rattle.shelf.proofs.bench.Bench.find.Goals as goal

pub returns-in-One : goal.returns-in-One
returns-in-One c =
    let s = c.args.self.now in
    let k = s.k.number in
    let a = c.in-One.field-0 in
    let high = false-ltb a k (sym (ap (is_sole_data k) (sym c.in-One.is) ∙ c.requires.several)) in
    record {
      kept = kept_none s;
      work = found_parities k (published k) (length s.block.now) c.args.out
          (λ x o. omega (arith, eqb-true a x (ap (λ m. is_out m x) (sym c.in-One.is) ∙ o))) s.work.now;
    }
