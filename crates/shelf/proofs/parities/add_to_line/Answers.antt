use Rattle.std.proofs.Common.{◌≡◌, ◌+◌, length, arith}
use Rattle.code.specs.Code.{meets}
use Rattle.code.proofs.Limits.{a_width}
use Rattle.code.proofs.Rows.{meets_lt}
use Rattle.shelf.proofs.Changing.{answers_ready}
use Rattle.shelf.proofs.parities.add_to_line.Goals as goal

pub add_at-requires-clause-ready : goal.add_at-requires-clause-ready
add_at-requires-clause-ready g c =
    let k = c.args.k.number in
    let t = c.args.through in
    let w = a_width k c.args.k.valid in
    let here : c.line.result.0 ≡ meets c.args.row.0 t = c.line.ensures.within (omega arith) in
    let l = meets_lt k c.args.row.0 t c.requires.row c.requires.through in
    answers_ready k (length c.args.block.now) (g.T.Tray.meaning c.args.tray.now) (k + 1) c.line.result.0 c.requires.answers (omega arith)
