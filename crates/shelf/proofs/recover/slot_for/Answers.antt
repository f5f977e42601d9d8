use Rattle.std.proofs.Common.{◌+◌, sym, ap, ◌∙◌, arith}
use Rattle.code.specs.Code.{rows}
use Rattle.code.proofs.Rows.{meets_lt}
use Rattle.shelf.proofs.Recovered.{by_rows, by_line, by_number}
use Rattle.shelf.proofs.recover.slot_for.Goals as goal

pub returns-then-column-by-clause-value : goal.returns-then-column-by-clause-value
returns-then-column-by-clause-value c =
    sym (by_rows c.args.k.number c.args.by c.args.column c.args.row.0 c.if-column-by.true)

pub returns-then-column-k : goal.returns-then-column-k
returns-then-column-k c =
    let k = c.args.k.number in
    let e = c.line.ensures.within (omega arith) in
    let l = meets_lt k c.args.row.0 c.args.column c.requires c.if-column-k.true in
    record {
      value = c.line_slot.ensures ∙ ap (λ n. rows k + n) e ∙ sym (by_line k c.args.by c.args.column c.args.row.0 c.if-column-by.false c.if-column-k.true);
      within = omega arith;
    }

pub returns-else-column-k-clause-value : goal.returns-else-column-k-clause-value
returns-else-column-k-clause-value c =
    let r = c.rows.ensures.value in
    ap (λ x. x + c.args.row.0) r ∙ sym (by_number c.args.k.number c.args.by c.args.column c.args.row.0 c.if-column-by.false c.if-column-k.false)
