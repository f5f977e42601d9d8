use Rattle.std.proofs.Common.{◌≡◌, ℕ, ◌+◌, length, sym, refl, ap, ◌∙◌, arith}
use lib.Bits.{bit_xor}
use Rattle.code.specs.Numbers.{only, xorsum}
use Rattle.code.specs.Neighbours.{published}
use Rattle.code.proofs.Limits.{law_of_width}
use Rattle.code.proofs.Xor.{sum_next}
use Rattle.law.specs.Holding.{held, Calm}
use Rattle.shelf.specs.Regaining.{wants, taken}
use Rattle.shelf.proofs.Regaining.{may_read}
use Rattle.shelf.proofs.OneBlock.{calm_refl, calm_then, may_read_calm, bytes_none, bytes_more, bytes_calm, wants_other, taken_wanted}
use Rattle.shelf.proofs.regain.add_taken.Goals as goal

pub add_if-requires : goal.add_if-requires
add_if-requires g c =
    let k = c.args.k.number in
    record { ready = λ _. may_read k _ _ c.args.lost c.requires.alone k c.args.row.0 _ (omega arith) (omega arith) c.requires.row c.requires.scratch; scratch = c.requires.scratch }

pub loop-column-init : goal.loop-column-init
unfolding xorsum
loop-column-init g c =
    let m = g.T.Tray.meaning c.add_if.new.tray in
    (calm_refl m, bytes_none (length c.add_if.new.block) c.add_if.new.block (λ _. 0) (λ _. refl))

pub add_if-requires-in-loop-column-clause-ready : goal.add_if-requires-in-loop-column-clause-ready
add_if-requires-in-loop-column-clause-ready g c =
    let m = g.T.Tray.meaning c.args.tray.now in
    let m' = g.T.Tray.meaning c.loop-column.tray in
    let k = c.args.k.number in
    let i = c.args.row.0 in
    let j = c.args.lost in
    let t = c.loop-column.column in
    let calm : Calm m m' = calm_then m _ m' c.add_if.ensures.tray c.loop-column.invariant.0 in
    λ w. may_read_calm k _ m m' j calm c.requires.alone t i _ (omega arith) (wants_other (published k) i c.args.through j t (sym c.is_wanted.ensures ∙ w)) c.requires.row (omega arith)

pub loop-column-preserved : goal.loop-column-preserved
loop-column-preserved g c =
    let m = g.T.Tray.meaning c.add_if.new.tray in
    let m' = g.T.Tray.meaning c.loop-column.tray in
    let right = published c.args.k.number in
    let i = c.args.row.0 in
    let j = c.args.lost in
    let t = c.loop-column.column in
    let was = c.add_if.new.block in
    let term : ℕ → ℕ → ℕ = λ b c'. only (wants right i c.args.through j c') (held m b i c') in (
      calm_then m m' _ c.loop-column.invariant.0 c.add_if-in-loop-column.ensures.tray,
      bytes_more (length was) was (λ b. xorsum t (term b)) (λ b. only c.is_wanted.result (held m b i t)) (λ b. xorsum (t + 1) (term b)) c.loop-column.block c.add_if-in-loop-column.new.block
          (λ b. ap (λ w. bit_xor (xorsum t (term b)) (only w (held m b i t))) c.is_wanted.ensures ∙ sym (sum_next t (term b))) c.loop-column.invariant.1
          (bytes_calm (λ h b. only c.is_wanted.result (h b i t)) m m' (length c.loop-column.block) (length was) c.loop-column.block c.add_if-in-loop-column.new.block c.loop-column.invariant.0
          c.loop-column.auto.block c.add_if-in-loop-column.ensures.block),
    )

pub returns-clause-block : goal.returns-clause-block
returns-clause-block g c =
    let m = g.T.Tray.meaning c.args.tray.now in
    let m' = g.T.Tray.meaning c.add_if.new.tray in
    let k = c.args.k.number in
    let right = published k in
    let i = c.args.row.0 in
    let j = c.args.lost in
    let t = c.args.through in
    let was = c.args.block.now in
    let calm : Calm m m' = c.add_if.ensures.tray in
    let e : c.loop-column.column ≡ k = omega arith in
    let e' : length c.add_if.new.block ≡ length was = omega arith in
    bytes_more (length was) was (λ b. only c.is_taken.result (held m b i k)) (λ b. xorsum k (λ c'. only (wants right i t j c') (held m b i c'))) (λ b. taken k right (held m b) j i t)
    c.add_if.new.block c.loop-column.block
    (λ b. ap (λ w. bit_xor (only w (held m b i k)) (xorsum k (λ c'. only (wants right i t j c') (held m b i c')))) c.is_taken.ensures
    ∙ taken_wanted k right (law_of_width k c.args.k.valid) i t c.requires.through (held m b) j c.requires.alone.column)
    c.add_if.ensures.block
    (bytes_calm (λ h b. xorsum k (λ c'. only (wants right i t j c') (h b i c'))) m m' (length c.add_if.new.block) (length was) c.add_if.new.block c.loop-column.block calm e'
    (rw e at c.loop-column.invariant.1))
