use Rattle.std.proofs.Common.{◌≡◌, ◌-◌, arith}
use Rattle.std.proofs.lemmas.List.{take-replicate}
use Rattle.shelf.proofs.layout.zeros.Goals as goal

pub returns : goal.returns
returns c = let e : c.args.size - 0 ≡ c.args.size = omega arith in rw e (take-replicate c.args.size 512 0 c.requires)
