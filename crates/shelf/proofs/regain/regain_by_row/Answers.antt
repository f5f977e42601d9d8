use Rattle.std.proofs.Common.{◌≡◌, ◌+◌, not, eqb, length, get_or, refl, ap, ap₂, arith}
use lib.Bits.{bit_xor}
use Rattle.code.specs.Numbers.{only, xorsum}
use Rattle.law.specs.Holding.{held, Calm}
use Rattle.law.specs.Hand.{others, by_row}
use Rattle.shelf.proofs.Regaining.{others_next}
use Rattle.shelf.proofs.OneBlock.{calm_refl, calm_read, calm_then, calm_held, bytes_none, bytes_more, bytes_all, bytes_calm}
use Rattle.shelf.proofs.regain.regain_by_row.Goals as goal

pub loop-column-init : goal.loop-column-init
unfolding others xorsum
loop-column-init g c =
    let m = g.T.Tray.meaning c.fetch.new.tray in
    (calm_refl m, bytes_none (length c.fetch.new.block) c.fetch.new.block (λ _. 0) (λ _. refl))

pub loop-column-preserved : goal.loop-column-preserved
loop-column-preserved g c =
    let m = g.T.Tray.meaning c.fetch.new.tray in
    let m' = g.T.Tray.meaning c.loop-column.tray in
    let i = c.args.row.0 in
    let j = c.args.lost in
    let t = c.loop-column.column in
    let was = c.fetch.new.block in (
      calm_then m m' _ c.loop-column.invariant.0 c.add_if.ensures.tray,
      bytes_more (length was) was (λ b. others t j (held m b i)) (λ b. only (not (eqb t j)) (held m b i t)) (λ b. others (t + 1) j (held m b i)) c.loop-column.block c.add_if.new.block
          (λ b. others_next j t (held m b i)) c.loop-column.invariant.1
          (bytes_calm (λ h b. only (not (eqb t j)) (h b i t)) m m' (length c.loop-column.block) (length was) c.loop-column.block c.add_if.new.block c.loop-column.invariant.0
          c.loop-column.auto.block c.add_if.ensures.block),
    )

pub returns-clause-block : goal.returns-clause-block
unfolding by_row
returns-clause-block g c =
    let m = g.T.Tray.meaning c.args.tray.now in
    let m' = g.T.Tray.meaning c.fetch.new.tray in
    let k = c.args.k.number in
    let i = c.args.row.0 in
    let j = c.args.lost in
    let calm : Calm m m' = calm_read m m' k c.fetch.ensures.tray in
    let e : c.loop-column.column ≡ k = omega arith in
    let e₁ : length c.fetch.new.block ≡ length c.args.block.now = omega arith in
    let e₂ : length c.loop-column.block ≡ length c.args.block.now = omega arith in
    bytes_all (length c.fetch.new.block) (length c.args.block.now) c.fetch.new.block c.loop-column.block
    (λ b. others k j (held m' b i)) (λ b. by_row k (held m b) j i) e₁ e₂
    (λ b. ap₂ bit_xor (ap (λ x. get_or x b 0) c.fetch.ensures.block) (ap (λ h. others k j (h b i)) (calm_held m m' calm)))
    (rw e at c.loop-column.invariant.1)
