use Rattle.std.proofs.Common.{eqb, get_or, ◌∙◌}
use lib.Bits.{xor_zero_r}
use Rattle.code.specs.Numbers.{only}
use Rattle.code.specs.Neighbours.{published}
use Rattle.code.proofs.Limits.{law_of_width}
use Rattle.shelf.specs.Slots.{nothing, to_lines}
use Rattle.shelf.proofs.Benching.{adds_row, adds_same, adds_then}
use Rattle.shelf.proofs.Holding.{row_of_one, lines_of_one}
use Rattle.shelf.proofs.bench.Bench.add_place.Goals as goal

pub returns : goal.returns
returns c =
    let s = c.args.self.now in
    let k = s.k.number in
    let right = published k in
    let i = c.args.row.0 in
    let j = c.args.column in
    let x = s.block.now in
    let law = law_of_width k s.k.valid in
    adds_same _ _ _ _ s c.add_to_lines.new.self
    (λ b r _. xor_zero_r (only (eqb r i) (get_or x b 0)) ∙ row_of_one k right law i j c.requires.row c.requires.column x b r)
    (λ b n l. lines_of_one k right law i j c.requires.row c.requires.column x b n l)
    (adds_then (λ b r. only (eqb r i) (get_or x b 0)) nothing nothing (to_lines k right i j k x) s c.add.new.self c.add_to_lines.new.self
    (adds_row i s c.add.new.self c.requires.row c.add.ensures) c.add_to_lines.ensures.kept c.add_to_lines.ensures.block
    (rw (c.add.ensures.kept.width, c.add.ensures.block) at c.add_to_lines.ensures.work))
