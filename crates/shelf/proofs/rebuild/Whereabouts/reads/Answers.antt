use Rattle.std.proofs.Common.{◌+◌, ◌*◌, ◌/◌, sym, ap, ◌∙◌}
use Rattle.shelf.specs.Rebuilding.{reads_for}
use Rattle.shelf.proofs.Rebuilding.{half_rows}
use Rattle.shelf.proofs.rebuild.Whereabouts.reads.Goals as goal

pub returns-in-Alone : goal.returns-in-Alone
returns-in-Alone c =
    let e = c.rows.ensures.value in
    ap (λ n. (c.args.k.number + 1) * (n / 2)) e ∙ ap (λ n. (c.args.k.number + 1) * n) (half_rows c.args.k.number c.args.k.valid) ∙ ap (reads_for c.args.k.number) (sym c.in-Alone.is)
