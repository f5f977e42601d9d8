use Rattle.std.proofs.Common.{◌≡◌, ◌+◌, sym, refl, arith}
use Rattle.code.specs.Neighbours.{published}
use Rattle.shelf.specs.Slots.{nothing, passed, to_skip}
use Rattle.shelf.proofs.Benching.{adds_none, adds_same, adds_then}
use Rattle.shelf.proofs.Holding.{passed_none, passed_next, passed_all}
use Rattle.shelf.proofs.bench.Bench.add_to_lines.Goals as goal

pub loop-through-init : goal.loop-through-init
loop-through-init c =
    let s = c.args.self.now in
    adds_none _ s (λ b n. sym (passed_none (published s.k.number) c.args.row.0 c.args.column (to_skip s.k.number c.args.skip) s.block.now b n))

pub loop-through-preserved : goal.loop-through-preserved
loop-through-preserved c =
    let s = c.args.self.now in
    let right = published s.k.number in
    let skip = to_skip s.k.number c.args.skip in
    let t = c.loop-through.through in
    let h = c.loop-through.invariant in
    adds_same _ _ nothing (passed right c.args.row.0 c.args.column skip s.block.now (t + 1)) s c.add_through.new.self (λ _ _ _. refl)
    (λ b n _. sym (passed_next right c.args.row.0 c.args.column skip s.block.now b n t))
    (adds_then nothing (passed right c.args.row.0 c.args.column skip s.block.now t) nothing _ s c.loop-through.self c.add_through.new.self h
    c.add_through.ensures.kept c.add_through.ensures.block (rw (h.kept.width, h.block) at c.add_through.ensures.work))

pub returns : goal.returns
returns c =
    let s = c.args.self.now in
    let k = s.k.number in
    let e : c.loop-through.through ≡ k = omega arith in
    adds_same nothing (passed (published k) c.args.row.0 c.args.column (to_skip k c.args.skip) s.block.now k) nothing _ s c.loop-through.self (λ _ _ _. refl)
    (λ b n _. passed_all (published k) c.args.row.0 c.args.column (to_skip k c.args.skip) s.block.now b n k) (rw e at c.loop-through.invariant)
