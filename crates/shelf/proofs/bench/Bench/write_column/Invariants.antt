-- The rows below `row` are written.
use Rattle.std.proofs.Common.{◌≡◌}
use Rattle.shelf.specs.Rebuilding.{slot_of, slot_block, written}
use Rattle.shelf.specs.Benches.{size_of}
use Rattle.shelf.proofs.bench.Bench.write_column.Given as goal

abbrev pub invariant-loop-row : goal.invariant-loop-row
invariant-loop-row g l =
    g.T.Tray.meaning l.tray
    ≡ written (g.T.Tray.meaning l.initial.tray) l.column l.row (λ i. slot_block (size_of l.self) l.self.work.now (slot_of l.self.k.number l.found l.column i))
