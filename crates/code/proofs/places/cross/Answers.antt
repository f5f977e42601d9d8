use Rattle.std.proofs.Common.{◌≡◌, ℕ, ◌+◌, ◌-◌, ◌*◌, ◌%◌, ◌^◌, ◌<◌, min, cond, ltb, sym, ap, ◌∙◌, arith, pow_pos}
use lib.Bits.{bit_xor}
use native.Mathlib.Decide.{dec_lt}
use borrow.Author.Tests.{lt-true, le-false}
use Rattle.std.proofs.Math.Nat.{min-eq_left, min-eq_right}
use Rattle.std.proofs.lemmas.Nat.{one_shl}
use Rattle.code.specs.Code.{meets}
use Rattle.code.proofs.places.cross.Goals as goal

pub returns : goal.returns
unfolding meets
returns c = ap (bit_xor c.args.n) (mask c.args.column c.unbounded_shl.result c.unbounded_shl.type_inv c.unbounded_shl.ensures)
  where
    -- the bits below j, and from 32 on all of 32 bits
    mask : (j s : ℕ) → s < 2 ^ 32 → s ≡ cond (ltb j 32) (1 * 2 ^ j % 2 ^ 32) 0 → (s + 4294967295) % 4294967296 ≡ 2 ^ min j 32 - 1
    mask j s h e =
        elim (dec_lt j 32) [
          | yes l ↦
              let bit : s ≡ 2 ^ j = e ∙ ap (λ b. cond b (1 * 2 ^ j % 2 ^ 32) 0) (sym (lt-true j 32 l)) ∙ one_shl j 32 l in
              let low : (s + 4294967295) % 4294967296 ≡ 2 ^ j - 1 = omega (arith, pow_pos j) in
              low ∙ ap (λ (x : ℕ). 2 ^ x - 1) (sym (min-eq_left {n = j} {m = 32} (omega arith)))
          | no m ↦
              ap (λ (x : ℕ). (x + 4294967295) % 4294967296) (e ∙ ap (λ b. cond b (1 * 2 ^ j % 2 ^ 32) 0) (sym (le-false j 32 (omega arith))))
              ∙ ap (λ (x : ℕ). 2 ^ x - 1) (sym (min-eq_right {n = 32} {m = j} (omega arith)))
        ]
