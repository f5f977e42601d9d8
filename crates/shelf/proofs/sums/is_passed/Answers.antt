use Rattle.std.proofs.Common.{◌≡◌, false, sym, ◌∙◌, rules}
use Rattle.code.specs.Neighbours.{published}
use Rattle.shelf.proofs.Holding.{passes_unskipped, passes_skipped}
use Rattle.shelf.proofs.sums.is_passed.Goals as goal

pub returns-then-ne : goal.returns-then-ne
returns-then-ne c =
    c.is_taken.ensures ∙ sym (passes_unskipped (published c.args.k.number) c.args.row.0 c.args.column c.args.k.number c.args.skip c.args.through c.requires (search rules))

pub returns-else-ne : goal.returns-else-ne
returns-else-ne c =
    let e : c.ne.result ≡ false = search rules in
    e ∙ sym (passes_skipped (published c.args.k.number) c.args.row.0 c.args.column c.args.k.number c.args.skip c.args.through (search rules))
