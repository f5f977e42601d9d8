use Rattle.std.proofs.Common.{ℕ, ◌+◌, not, eqb, length, refl}
use Rattle.code.specs.Numbers.{only, xorsum}
use Rattle.code.specs.Code.{Blocks, meets}
use Rattle.code.specs.Neighbours.{published}
use Rattle.law.specs.Holding.{held}
use Rattle.law.specs.Hand.{others}
use Rattle.shelf.specs.Regaining.{taken}
use Rattle.shelf.proofs.Regaining.{others_next}
use Rattle.shelf.proofs.OneBlock.{calm_refl, calm_then, bytes_none, bytes_more, bytes_calm}
use Rattle.shelf.proofs.regain.regain_by_line.Goals as goal

pub loop-through-init : goal.loop-through-init
unfolding others xorsum
loop-through-init g c =
    let m = g.T.Tray.meaning c.fetch.new.tray in
    (calm_refl m, bytes_none (length c.fetch.new.block) c.fetch.new.block (λ _. 0) (λ _. refl))

pub loop-through-preserved : goal.loop-through-preserved
loop-through-preserved g c =
    let m = g.T.Tray.meaning c.fetch.new.tray in
    let m' = g.T.Tray.meaning c.loop-through.tray in
    let k = c.args.k.number in
    let j = c.args.lost in
    let n = c.args.line.0 in
    let t = c.loop-through.through in
    let was = c.fetch.new.block in
    let term : (ℕ → Blocks) → ℕ → ℕ → ℕ = λ h b c'. taken k (published k) (h b) j (meets n c') c' in (
      calm_then m m' _ c.loop-through.invariant.0 c.add_meeting.ensures.tray,
      bytes_more (length was) was (λ b. others t j (term (held m) b)) (λ b. only (not (eqb t j)) (term (held m) b t)) (λ b. others (t + 1) j (term (held m) b)) c.loop-through.block c.add_meeting.new.block
          (λ b. others_next j t (term (held m) b)) c.loop-through.invariant.1
          (bytes_calm (λ h b. only (not (eqb t j)) (term h b t)) m m' (length c.loop-through.block) (length was) c.loop-through.block c.add_meeting.new.block c.loop-through.invariant.0
          c.loop-through.auto.block c.add_meeting.ensures.block),
    )
