-- The rows below `row` are spread.
use Rattle.code.specs.Code.{butterfly}
use Rattle.code.specs.Neighbours.{published}
use Rattle.shelf.specs.Slots.{nothing}
use Rattle.shelf.specs.Solving.{from_rows}
use Rattle.shelf.specs.Reading.{part}
use Rattle.shelf.specs.Benches.{AddsSums, size_of}
use Rattle.shelf.proofs.bench.Bench.spread.Given as goal

abbrev pub invariant-loop-row : goal.invariant-loop-row
invariant-loop-row l =
    let s = l.initial.self in
    AddsSums nothing (λ b. butterfly s.k.number (published s.k.number) (part l.column l.row (from_rows (size_of s) s.work.now l.column b))) s l.self
