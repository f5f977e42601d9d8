use Rattle.std.proofs.Common.{arith}
use Rattle.code.specs.Neighbours.{published}
use Rattle.shelf.proofs.Ranks.{white_parts, rank_is, few_whites}
use Rattle.shelf.proofs.solve.rank_of.Goals as goal

pub overflow_sub-others : goal.overflow_sub-others
overflow_sub-others c =
    let parts = white_parts c.args.k.number (published c.args.k.number) c.args.p c.args.q c.args.row.0 c.args.k.valid c.requires.pair c.requires.row in
    omega arith

pub overflow_sub-others-2 : goal.overflow_sub-others-2
overflow_sub-others-2 c =
    let parts = white_parts c.args.k.number (published c.args.k.number) c.args.p c.args.q c.args.row.0 c.args.k.valid c.requires.pair c.requires.row in
    omega arith

pub overflow_mul-result : goal.overflow_mul-result
overflow_mul-result c = let few = few_whites c.args.row.0 in omega arith

pub overflow_add-result : goal.overflow_add-result
overflow_add-result c = let few = few_whites c.args.row.0 in omega arith

pub returns : goal.returns
returns c =
    let parts = white_parts c.args.k.number (published c.args.k.number) c.args.p c.args.q c.args.row.0 c.args.k.valid c.requires.pair c.requires.row in
    let is = rank_is c.args.k.number c.args.p c.args.q c.args.row.0 in
    omega arith
