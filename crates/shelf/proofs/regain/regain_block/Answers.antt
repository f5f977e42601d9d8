use Rattle.std.proofs.Common.{◌≡◌, ◌+◌, ◌<◌, cond, ap, ◌∙◌, arith}
use lib.Bits.{bit_xor}
use Rattle.code.specs.Code.{rows, meets}
use Rattle.code.specs.Neighbours.{published}
use Rattle.code.proofs.Limits.{a_width}
use Rattle.code.proofs.Rows.{meets_lt}
use Rattle.law.specs.Holding.{held}
use Rattle.law.specs.Hand.{others, by_row, by_line, regained}
use Rattle.shelf.specs.Regaining.{taken}
use Rattle.shelf.proofs.regain.regain_block.Goals as goal

pub regain_by_line-requires-clause-line : goal.regain_by_line-requires-clause-line
regain_by_line-requires-clause-line g c =
    let k = c.args.k.number in
    let j = c.args.column in
    let w = a_width k c.args.k.valid in
    let jk = c.requires.alone.column in
    let e : c.line.result.0 ≡ meets c.args.row.0 j = c.line.ensures.within (omega arith) in
    let l = meets_lt k c.args.row.0 j c.requires.row jk in
    let l' : c.line.result.0 < rows k = omega arith in
    l'

pub returns-then-is_dark-clause-block : goal.returns-then-is_dark-clause-block
unfolding regained
returns-then-is_dark-clause-block g c =
    let m = g.T.Tray.meaning c.args.tray.now in
    let k = c.args.k.number in
    let i = c.args.row.0 in
    let j = c.args.column in
    record {
      long = c.regain_by_row.ensures.block.long;
      each = λ b bl. c.regain_by_row.ensures.block.each b bl ∙ ap (λ d. cond d (by_row k (held m b) j i) (by_line k (published k) (held m b) j i)) c.if-is_dark.ensures;
    }

pub returns-else-is_dark-clause-block : goal.returns-else-is_dark-clause-block
unfolding regained by_line
returns-else-is_dark-clause-block g c =
    let m = g.T.Tray.meaning c.args.tray.now in
    let k = c.args.k.number in
    let right = published k in
    let i = c.args.row.0 in
    let j = c.args.column in
    let w = a_width k c.args.k.valid in
    let jk = c.requires.alone.column in
    let e : c.line.result.0 ≡ meets i j = c.line.ensures.within (omega arith) in
    record {
      long = c.regain_by_line.ensures.block.long;
      each = λ b bl.
          c.regain_by_line.ensures.block.each b bl
          ∙ ap (λ n. bit_xor (held m b n (k + 1)) (others k j (λ c'. taken k right (held m b) j (meets n c') c'))) e
          ∙ ap (λ d. cond d (by_row k (held m b) j i) (by_line k right (held m b) j i)) c.if-is_dark.ensures;
    }
