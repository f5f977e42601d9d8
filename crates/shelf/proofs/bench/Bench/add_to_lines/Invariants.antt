-- The lines that meet the columns below `through` are served.
use Rattle.code.specs.Neighbours.{published}
use Rattle.shelf.specs.Slots.{nothing, passed, to_skip}
use Rattle.shelf.specs.Benches.{Adds}
use Rattle.shelf.proofs.bench.Bench.add_to_lines.Given as goal

abbrev pub invariant-loop-through : goal.invariant-loop-through
invariant-loop-through l =
    let s = l.initial.self in
    Adds nothing (passed (published s.k.number) l.row.0 l.column (to_skip s.k.number l.skip) s.block.now l.through) s l.self
