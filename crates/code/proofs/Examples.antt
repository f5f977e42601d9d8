-- The examples, by computing.
use Rattle.std.proofs.Common.{◌≡◌, ℕ, [], ◌∷◌, refl, ap, ◌∙◌, ap₂}
use lib.Bits.{bit_xor, xor_assoc, xor_zero_r, xor_comm}
use Rattle.code.specs.Numbers.{only, xorsum, any, those}
use Rattle.code.specs.Code.{spot, bit, under, dark, meets, horizontal, beside, gives, butterfly}
use Rattle.code.specs.Neighbours.{distance, near, published}
use Rattle.code.specs.Lines.{takes, holds, sum_of}
use Rattle.code.specs.Examples.{Examples, given, sample}

-- what the sums compute to, without the zeros and brackets
six : (a b c d e f : ℕ)
    → bit_xor (bit_xor (bit_xor a b) (bit_xor c (bit_xor (bit_xor d 0) 0))) (bit_xor e (bit_xor f 0))
    ≡ bit_xor a (bit_xor b (bit_xor c (bit_xor d (bit_xor e (bit_xor f 0)))))
six a b c d e f = simp (xor_assoc, xor_zero_r)

seven : (a b c d e f g : ℕ)
    → bit_xor (bit_xor (bit_xor (bit_xor (bit_xor a (bit_xor c b)) (bit_xor d 0)) (bit_xor e 0)) (bit_xor f 0)) (bit_xor g 0)
    ≡ bit_xor a (bit_xor b (bit_xor c (bit_xor d (bit_xor e (bit_xor f (bit_xor g 0))))))
seven a b c d e f g = ap (λ x. bit_xor (bit_xor (bit_xor (bit_xor (bit_xor a x) (bit_xor d 0)) (bit_xor e 0)) (bit_xor f 0)) (bit_xor g 0)) (xor_comm c b) ∙ simp (xor_assoc, xor_zero_r)

alone : (x : ℕ) → bit_xor (bit_xor (bit_xor x 0) 0) 0 ≡ x
alone x = simp xor_zero_r

pub examples : Examples published
unfolding bit under dark meets only xorsum horizontal beside gives butterfly distance near published any takes holds those sum_of given spot sample
examples =
    record {
      neighbour = refl;
      line_0 = λ D. simp (xor_assoc, xor_zero_r);
      line_2 = λ D. six (D 2 0) (D 2 2) (D 3 1) (D 3 0) (D 1 2) (D 1 1);
      line_0_of_5 = λ D. seven (D 0 0) (D 0 4) (D 0 3) (D 1 1) (D 3 2) (D 7 3) (D 15 4);
      sample_h = refl;
      sample_b = refl;
      rows_for_1 = refl;
      lines_for_1 = refl;
      rows_for_0 = refl;
      lines_for_0 = refl;
      in_lines = λ x. ap₂ (λ a b. a ∷ b ∷ 0 ∷ 0 ∷ []) (alone x) (alone x);
      held_by = refl;
    }
