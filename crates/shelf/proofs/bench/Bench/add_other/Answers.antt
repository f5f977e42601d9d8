use Rattle.std.proofs.Common.{arith}
use Rattle.code.proofs.Limits.{law_of_width}
use Rattle.shelf.proofs.Benching.{kept_none, kept_then}
use Rattle.shelf.proofs.Regaining.{own_none, other_added}
use Rattle.shelf.proofs.bench.Bench.add_other.Goals as goal

pub returns-then-column-lost-clause-work : goal.returns-then-column-lost-clause-work
returns-then-column-lost-clause-work g c =
    let m = g.T.Tray.meaning c.args.tray.now in
    let s = c.args.self.now in
    let read = c.fetch_block.ensures.work in
    let added = c.add.ensures in
    let passed = c.add_to_lines.ensures in
    let kept = kept_then _ _ _ read.kept added.kept in
    record {
      kept = kept_then _ _ _ kept passed.kept;
      work = other_added s.k.number _ _ c.args.row.0 c.args.lost c.args.column m _ (law_of_width _ s.k.valid) c.requires.row c.requires.column (omega arith) _ _ _
          read.block (rw (read.kept.size, read.work) at added.work) (rw (kept.width, kept.size, added.block) at passed.work);
    }

pub returns-else-column-lost-clause-work : goal.returns-else-column-lost-clause-work
returns-else-column-lost-clause-work g c =
    record { kept = kept_none _; work = own_none _ _ _ c.args.row.0 c.args.lost c.args.column (g.T.Tray.meaning c.args.tray.now) _ (omega arith) }
