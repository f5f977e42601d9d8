use Rattle.std.proofs.Common.{length}
use Rattle.shelf.proofs.Refilling.{refilled}
use Rattle.shelf.proofs.bench.Bench.refill.Goals as goal

pub returns-clause-done : goal.returns-clause-done
returns-clause-done g c =
    let s = c.args.self.now in
    let kept = c.locate-found.ensures.kept in
    let located = c.locate-found.new.self in
    rw (c.reads.ensures, kept.width) (
    refilled s.k.number (length s.block.now) s.k.valid c.args.out c.requires.columns (g.T.Tray.meaning c.args.tray.now) _ located.work.now
    c.args.column c.requires.missing c.requires.heard (g.T.Tray.sized c.args.tray.now) (rw (kept.width, kept.size) at located.room) _ _
    c.locate-found.ensures.found (rw (kept.width, kept.size) at c.write_column.ensures)
    )
