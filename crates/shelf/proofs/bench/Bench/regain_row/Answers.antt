use Rattle.std.proofs.Common.{◌∙◌}
use Rattle.code.proofs.Limits.{law_of_width}
use Rattle.shelf.proofs.Benching.{kept_then}
use Rattle.shelf.proofs.Regaining.{read_one, row_found}
use Rattle.shelf.proofs.bench.Bench.regain_row.Goals as goal

pub returns-clause-work : goal.returns-clause-work
returns-clause-work g c =
    let m = g.T.Tray.meaning c.args.tray.now in
    let s = c.args.self.now in
    let k = s.k.number in
    let read = c.fetch_slot.ensures in
    let added = c.add_others.ensures.work in
    let copied = c.copy_slot.ensures in
    let passed = c.add_to_lines.ensures in
    let kept₁ = kept_then _ _ _ read.kept added.kept in
    let kept₂ = kept_then _ _ _ kept₁ copied.kept in
    let e = read.tray ∙ read_one m k (g.T.Tray.wraps c.args.tray.now) in
    record {
      kept = kept_then _ _ _ kept₂ passed.kept;
      work = row_found k _ (law_of_width k s.k.valid) _ m c.args.row.0 c.args.lost c.requires.alone.column c.requires.row _ _ _ _ _
          read.work (rw (read.kept.width, read.kept.size, e) at added.work) (rw kept₁.size at copied.block) (rw (kept₂.width, kept₂.size, copied.work) at passed.work);
    }
