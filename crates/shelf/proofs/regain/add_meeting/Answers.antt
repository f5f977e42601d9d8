use Rattle.std.proofs.Common.{◌≡◌, ◌<◌, not, eqb, ◌≢◌, length, get_or, sym, ap, ◌∙◌, arith}
use lib.Bits.{bit_xor}
use borrow.Author.Tests.{eq-true, ne_false}
use Rattle.code.specs.Code.{rows, meets}
use Rattle.code.specs.Neighbours.{published}
use Rattle.code.proofs.Limits.{a_width}
use Rattle.code.proofs.Rows.{meets_lt}
use Rattle.code.proofs.Xor.{only_true, only_false}
use Rattle.law.specs.Holding.{held}
use Rattle.shelf.specs.Regaining.{taken}
use Rattle.shelf.proofs.OneBlock.{bytes_none}
use Rattle.shelf.proofs.regain.add_meeting.Goals as goal

pub add_taken-requires-clause-row : goal.add_taken-requires-clause-row
add_taken-requires-clause-row g c =
    let k = c.args.k.number in
    let t = c.args.through in
    let w = a_width k c.args.k.valid in
    let e : c.meeting.result.0 ≡ meets c.args.line.0 t = c.meeting.ensures.within (omega arith) in
    let l = meets_lt k c.args.line.0 t c.requires.line c.requires.through in
    let l' : c.meeting.result.0 < rows k = omega arith in
    l'

pub returns-then-through-lost-clause-block : goal.returns-then-through-lost-clause-block
returns-then-through-lost-clause-block g c =
    let m = g.T.Tray.meaning c.args.tray.now in
    let k = c.args.k.number in
    let j = c.args.lost in
    let n = c.args.line.0 in
    let t = c.args.through in
    let w = a_width k c.args.k.valid in
    let e : c.meeting.result.0 ≡ meets n t = c.meeting.ensures.within (omega arith) in
    let ne : t ≢ j = omega arith in
    λ b bl.
    c.add_taken.ensures.block b bl
    ∙ ap (bit_xor (get_or c.args.block.now b 0))
    (ap (λ i. taken k (published k) (held m b) j i t) e ∙ sym (only_true (not (eqb t j)) (taken k (published k) (held m b) j (meets n t) t) (ap not (sym (ne_false t j ne)))))

pub returns-else-through-lost-clause-block : goal.returns-else-through-lost-clause-block
returns-else-through-lost-clause-block g c =
    let m = g.T.Tray.meaning c.args.tray.now in
    let k = c.args.k.number in
    let j = c.args.lost in
    let t = c.args.through in
    let e : t ≡ j = omega arith in
    bytes_none (length c.args.block.now) c.args.block.now _
    (λ b. only_false (not (eqb t j)) (taken k (published k) (held m b) j (meets c.args.line.0 t) t) (ap not (sym (eq-true t j e))))
