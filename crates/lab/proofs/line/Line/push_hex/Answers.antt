use Rattle.std.proofs.Common.{◌≡◌, ℕ, ◌/◌, ◌%◌, List, [], ◌∷◌, ◌++◌, refl, ap, sym, ◌∙◌, arith}
use Rattle.std.proofs.lemmas.List.{take_more}
use Rattle.lab.specs.Lines.{hex, hex_digit}
use Rattle.lab.proofs.Pushing.{both, written_as}
use Rattle.lab.proofs.line.Line.push_hex.Goals as goal

hex_push : (bytes : List ℕ) (b : ℕ) → hex (bytes ++ (b ∷ [])) ≡ hex bytes ++ (hex_digit (b / 16) ∷ (hex_digit (b % 16) ∷ []))
hex_push [] b = refl
hex_push (x ∷ bytes) b = ap (λ t. hex_digit (x / 16) ∷ (hex_digit (x % 16) ∷ t)) (hex_push bytes b)

pub loop-byte-preserved : goal.loop-byte-preserved
loop-byte-preserved c =
    let digits = rw (c.hex_digit.ensures, c.hex_digit-in-loop-byte.ensures) at c.push.ensures in
    let more = ap hex (take_more c.args.block.now c.loop-byte.byte-index 0 c.loop-byte-test.true) ∙ hex_push _ _ in
    written_as (sym more) (omega arith) (both c.loop-byte.invariant digits)
