use Rattle.std.proofs.Common.{refl, arith, lit<, rules}
use Rattle.std.proofs.lemmas.Fmt.{length-decimal-le}
use Rattle.lab.proofs.Pushing.{written_as}
use Rattle.lab.proofs.line.Line.push_number.Goals as goal

pub push_digits-requires : goal.push_digits-requires
push_digits-requires c = omega (arith, length-decimal-le 10 c.args.n (lit< tt) (search rules) (search rules))

pub returns : goal.returns
returns c = written_as refl (length-decimal-le 10 c.args.n (lit< tt) (search rules) (search rules)) c.push_digits.ensures
