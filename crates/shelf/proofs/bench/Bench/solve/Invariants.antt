-- The rows of lower rank than `at` are settled.
use Rattle.std.proofs.Common.{false}
use Rattle.shelf.specs.Solving.{before}
use Rattle.shelf.specs.Benches.{Leads}
use Rattle.shelf.proofs.bench.Bench.solve.Given as goal

abbrev pub invariant-loop-at : goal.invariant-loop-at
invariant-loop-at l =
    let s = l.initial.self in
    Leads l.p l.q (λ _. false) (before s.k.number l.p l.q l.at 0) s l.self
