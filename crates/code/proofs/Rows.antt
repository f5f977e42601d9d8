-- How the lines turn dark places into white ones.
use Rattle.std.proofs.Common.{◌≡◌, ℕ, zero, suc, ◌+◌, ◌-◌, ◌*◌, ◌/◌, ◌%◌, ◌^◌, ◌<◌, ◌≤◌, Bool, true, cond, not, eqb, ltb, ◌≢◌, sym, refl, ap, ◌∙◌, ap₂, add_assoc, mod-lt, arith, pow_mono}
use native.Mathlib.Decide.{dec_lt}
use Rattle.std.proofs.Math.Bool.{not-not}
use Rattle.std.proofs.lemmas.Bool.{cond-true, cond-false, lt-ltb, le-ltb}
use Rattle.std.proofs.lemmas.Nat.Bits.{shr_and_one, bit_at-suc, bit_at-lt, bit_at_ones, bit_at_ones_above, bit_at_above}
use lib.Count.{ones, ones_step, ones-le}
use lib.Bits.{bit_xor, bit_and, xor_comm, xor_assoc, xor_self, xor_zero_r, xor_shr, xor_mod, xor_lt}
use lib.Pow.{ones_lt}
use Rattle.code.specs.Numbers.{count}
use Rattle.code.proofs.Count.{count_same}
use Rattle.code.specs.Code.{rows, bit, under, dark, meets}

-- ---- bits

bit-bit_xor : (a b j : ℕ) → bit (bit_xor a b) j ≡ bit_xor (bit a j) (bit b j)
unfolding bit
bit-bit_xor a b j = ap (λ (x : ℕ). x % 2) (xor_shr a b j) ∙ xor_mod (a / 2 ^ j) (b / 2 ^ j) 1

under_lt : (a j : ℕ) → under a j < 2
unfolding bit under
under_lt a zero = omega arith
under_lt a (suc j) = bit_at-lt a j

under_xor : (a b j : ℕ) → under (bit_xor a b) j ≡ bit_xor (under a j) (under b j)
unfolding under
under_xor a b zero = refl
under_xor a b (suc j) = bit-bit_xor a b j

-- ---- a test of two bits, with the same bit added to both, or one to one of them

bits_ind : (P : ℕ → ℕ → Type 0) → P 0 0 → P 0 1 → P 1 0 → P 1 1 → (a b : ℕ) → a < 2 → b < 2 → P a b
bits_ind P h₀ h₁ h₂ h₃ zero zero l m = h₀
bits_ind P h₀ h₁ h₂ h₃ zero (suc zero) l m = h₁
bits_ind P h₀ h₁ h₂ h₃ zero (suc (suc b)) l m = absurd (omega arith)
bits_ind P h₀ h₁ h₂ h₃ (suc zero) zero l m = h₂
bits_ind P h₀ h₁ h₂ h₃ (suc zero) (suc zero) l m = h₃
bits_ind P h₀ h₁ h₂ h₃ (suc zero) (suc (suc b)) l m = absurd (omega arith)
bits_ind P h₀ h₁ h₂ h₃ (suc (suc a)) b l m = absurd (omega arith)

module _ (n t i : ℕ) where
  turned : (c d : ℕ) → bit (2 ^ t - 1) i ≡ c → under (2 ^ t - 1) i ≡ d → dark (meets n t) i ≡ eqb (bit_xor (bit n i) c) (bit_xor (under n i) d)
  unfolding dark meets
  turned c d e f = ap₂ eqb (bit-bit_xor n (2 ^ t - 1) i ∙ ap (bit_xor (bit n i)) e) (under_xor n (2 ^ t - 1) i ∙ ap (bit_xor (under n i)) f)

  same₀ : bit (2 ^ t - 1) i ≡ 0 → under (2 ^ t - 1) i ≡ 0 → dark (meets n t) i ≡ dark n i
  unfolding dark
  same₀ e f = turned 0 0 e f ∙ ap₂ eqb (xor_zero_r (bit n i)) (xor_zero_r (under n i))

  same₁ : bit (2 ^ t - 1) i ≡ 1 → under (2 ^ t - 1) i ≡ 1 → dark (meets n t) i ≡ dark n i
  unfolding bit dark
  same₁ e f = turned 1 1 e f ∙ bits_ind (λ a b. eqb (bit_xor a 1) (bit_xor b 1) ≡ eqb a b) refl refl refl refl (bit n i) (under n i) (bit_at-lt n i) (under_lt n i)

  flip₀ : bit (2 ^ t - 1) i ≡ 0 → under (2 ^ t - 1) i ≡ 1 → dark (meets n t) i ≡ not (dark n i)
  unfolding bit dark
  flip₀ e f = turned 0 1 e f ∙ bits_ind (λ a b. eqb (bit_xor a 0) (bit_xor b 1) ≡ not (eqb a b)) refl refl refl refl (bit n i) (under n i) (bit_at-lt n i) (under_lt n i)

  flip₁ : bit (2 ^ t - 1) i ≡ 1 → under (2 ^ t - 1) i ≡ 0 → dark (meets n t) i ≡ not (dark n i)
  unfolding bit dark
  flip₁ e f = turned 1 0 e f ∙ bits_ind (λ a b. eqb (bit_xor a 1) (bit_xor b 0) ≡ not (eqb a b)) refl refl refl refl (bit n i) (under n i) (bit_at-lt n i) (under_lt n i)

-- ---- a row's Gray code has the bits that differ from those under them: the white places

doubled : (i j : ℕ) → under i j ≡ bit (i * 2) j
unfolding bit under
doubled i zero = omega arith
doubled i (suc j) = ap (λ (x : ℕ). bit x j) (sym halved) ∙ sym (bit_at-suc (i * 2) j)
  where
    halved : i * 2 / 2 ≡ i
    halved = omega arith

pub gray : (i j : ℕ) → dark i j ≡ eqb (bit (bit_xor i (i * 2)) j) 0
unfolding bit dark
gray i j =
    bits_ind (λ a b. eqb a b ≡ eqb (bit_xor a b) 0) refl refl refl refl (bit i j) (under i j) (bit_at-lt i j) (under_lt i j)
    ∙ ap (λ (x : ℕ). eqb (bit_xor (bit i j) x) 0) (doubled i j)
    ∙ ap (λ (x : ℕ). eqb x 0) (sym (bit-bit_xor i (i * 2) j))

pub gray_below : (i j : ℕ) → i < 2 ^ 32 → j ≤ i * 2 → bit_xor i j < 2 ^ 33
gray_below i j l m = xor_lt 33 i j (omega arith) (omega arith)

-- the ones of a number are counted bit by bit
count_first : (k : ℕ) (f : ℕ → Bool) → count (suc k) f ≡ cond (f 0) 1 0 + count k (λ j. f (suc j))
unfolding count
count_first zero f = omega arith
count_first (suc k) f = ap (λ (n : ℕ). n + cond (f (suc k)) 1 0) (count_first k f) ∙ add_assoc (cond (f 0) 1 0) (count k (λ j. f (suc j))) (cond (f (suc k)) 1 0)

ones_count : (k x : ℕ) → x < 2 ^ k → ones x ≡ count k (λ j. not (eqb (bit x j) 0))
unfolding bit count
ones_count zero x l = omega (arith, ones-le 0 x l)
ones_count (suc k) x l =
    ones_step x ∙ ap₂ (λ (a b : ℕ). a + b) (low (x % 2) (mod-lt x two_pos)) (ones_count k (x / 2) (omega (arith, l)) ∙ count_same k _ _ (λ j _. ap (λ (n : ℕ). not (eqb n 0)) (sym (bit_at-suc x j))))
    ∙ ap (λ (n : ℕ). cond {A = ℕ} (not (eqb n 0)) 1 0 + count k (λ j. not (eqb (bit x (suc j)) 0))) (sym first)
    ∙ sym (count_first k (λ j. not (eqb (bit x j) 0)))
  where
    first : bit x 0 ≡ x % 2
    first = omega arith

    two_pos : 0 < 2
    two_pos = omega arith

    low : (n : ℕ) → n < 2 → n ≡ cond (not (eqb n 0)) 1 0
    low zero l = refl
    low (suc zero) l = refl
    low (suc (suc n)) l = omega arith

pub white_ones : (i : ℕ) → bit_xor i (i * 2) < 2 ^ 33 → ones (bit_xor i (i * 2)) ≡ count 33 (λ j. not (dark i j))
white_ones i l =
    ones_count 33 (bit_xor i (i * 2)) l
    ∙ count_same 33 _ _ (λ j _. ap not (sym (gray i j)))

-- a shift of the code shows the bit, or is 0 where it goes past all of them
pub dark_shift : (i j s : ℕ) → bit_xor i (i * 2) < 2 ^ 33 → s ≡ cond (ltb j 64) (bit_xor i (i * 2) / 2 ^ j) 0 → eqb (bit_and s 1) 0 ≡ dark i j
unfolding bit
dark_shift i j s l e =
    let whole : bit_and s 1 ≡ bit (bit_xor i (i * 2)) j =
    elim (dec_lt j 64) [
      | yes h ↦ ap (λ (x : ℕ). bit_and x 1) (e ∙ cond-true (ltb j 64) (bit_xor i (i * 2) / 2 ^ j) 0 (lt-ltb j 64 h)) ∙ shr_and_one (bit_xor i (i * 2)) j
      | no h ↦
          ap (λ (x : ℕ). bit_and x 1) (e ∙ cond-false (ltb j 64) (bit_xor i (i * 2) / 2 ^ j) 0 (le-ltb j 64 (omega arith)))
          ∙ sym (bit_at_above (bit_xor i (i * 2)) 33 j l (omega arith))
    ]
    in
    ap (λ (x : ℕ). eqb x 0) whole ∙ sym (gray i j)

-- above a number's bits all places are dark
pub dark_above : (t i j : ℕ) → i < 2 ^ t → t < j → dark i j ≡ true
unfolding dark bit under
dark_above t i zero l m = absurd (omega arith)
dark_above t i (suc j) l m = ap₂ eqb (bit_at_above i t (suc j) l (omega arith)) (bit_at_above i t j l (omega arith))

-- ---- one line: it turns place t and place 0

keeps : (n t i : ℕ) → suc i ≢ t → dark (meets n t) (suc i) ≡ dark n (suc i)
unfolding bit under
keeps n t i d =
    elim (dec_lt (suc i) t) [
      | yes l ↦ same₁ n t (suc i) (bit_at_ones t (suc i) l) (bit_at_ones t i (omega arith))
      | no l ↦ same₀ n t (suc i) (bit_at_ones_above t (suc i) (omega arith)) (bit_at_ones_above t i (omega arith))
    ]

flips_own : (n i : ℕ) → dark (meets n (suc i)) (suc i) ≡ not (dark n (suc i))
unfolding bit under
flips_own n i = flip₀ n (suc i) (suc i) (bit_at_ones_above (suc i) (suc i) (omega arith)) (bit_at_ones (suc i) i (omega arith))

flips_zero : (n t : ℕ) → 0 < t → dark (meets n t) 0 ≡ not (dark n 0)
unfolding bit under
flips_zero n t l = flip₁ n t 0 (bit_at_ones t 0 l) refl

-- ---- from a row along a line to another row

pub back : (n j : ℕ) → meets (meets n j) j ≡ n
unfolding meets
back n j = xor_assoc n (2 ^ j - 1) (2 ^ j - 1) ∙ ap (bit_xor n) (xor_self (2 ^ j - 1)) ∙ xor_zero_r n

meets_zero : (n : ℕ) → meets n 0 ≡ n
unfolding meets
meets_zero n = xor_zero_r n

meets_comm : (v p j : ℕ) → meets (meets v p) j ≡ meets (meets v j) p
unfolding meets
meets_comm v p j = xor_assoc v (2 ^ p - 1) (2 ^ j - 1) ∙ ap (bit_xor v) (xor_comm (2 ^ p - 1) (2 ^ j - 1)) ∙ sym (xor_assoc v (2 ^ j - 1) (2 ^ p - 1))

pub meets_lt : (k n j : ℕ) → n < rows k → j < k → meets n j < rows k
unfolding rows meets
meets_lt k n j l m = xor_lt (k - 1) n (2 ^ j - 1) l (omega (arith, ones_lt j, pow_mono {i = j} {j = k - 1} (omega arith)))

pub cross_own : (v p j : ℕ) → p ≢ j → dark (meets (meets v p) j) p ≡ not (dark v p)
cross_own v zero j d = ap (λ (x : ℕ). dark (meets x j) 0) (meets_zero v) ∙ flips_zero v j (omega arith)
cross_own v (suc p) j d = keeps (meets v (suc p)) j p d ∙ flips_own v p

pub cross_other : (v p j : ℕ) → p ≢ j → dark (meets (meets v p) j) j ≡ not (dark v j)
cross_other v p j d = ap (λ (x : ℕ). dark x j) (meets_comm v p j) ∙ cross_own v j p (λ e. d (sym e))

pub cross_rest : (v p j i : ℕ) → i ≢ p → i ≢ j → dark (meets (meets v p) j) i ≡ dark v i
cross_rest v p j zero d e = flips_zero (meets v p) j (omega arith) ∙ ap not (flips_zero v p (omega arith)) ∙ not-not (dark v 0)
cross_rest v p j (suc i) d e = keeps (meets v p) j i e ∙ keeps v p i d
