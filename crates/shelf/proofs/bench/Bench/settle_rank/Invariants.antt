-- The rows of this rank below `row` are settled.
use Rattle.shelf.specs.Solving.{before}
use Rattle.shelf.specs.Benches.{Leads}
use Rattle.shelf.proofs.bench.Bench.settle_rank.Given as goal

abbrev pub invariant-loop-row : goal.invariant-loop-row
invariant-loop-row l =
    let s = l.initial.self in
    Leads l.p l.q (before s.k.number l.p l.q l.at 0) (before s.k.number l.p l.q l.at l.row) s l.self
