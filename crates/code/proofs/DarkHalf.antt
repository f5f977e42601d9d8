-- Half of the rows are dark for a column: a step along two lines turns its dark rows into its white ones.
use Rattle.std.proofs.Common.{◌≡◌, ℕ, zero, suc, ◌+◌, ◌-◌, ◌*◌, ◌^◌, ◌<◌, ◌≤◌, Bool, true, false, cond, not, ◌≢◌, sym, refl, ap, ◌∙◌, ap₂, add-zero, add_assoc, add-suc, add_comm, arith, pow_pos}
use native.Mathlib.Decide.{dec_lt}
use Rattle.std.proofs.Math.Nat.{two-pow-succ}
use lib.Arith.{lt-one}
use lib.Bits.{bit_xor, xor_block, xor_assoc, xor_zero_r}
use Rattle.code.specs.Code.{rows, dark, meets}
use Rattle.code.specs.Numbers.{count}
use Rattle.code.specs.Laws.{DarkHalf}
use Rattle.code.proofs.Count.{count_same}
use Rattle.code.proofs.Rows.{meets_lt, cross_own}

count_add : (a b : ℕ) (f : ℕ → Bool) → count (a + b) f ≡ count a f + count b (λ i. f (a + i))
unfolding count
count_add a zero f = ap (λ n. count n f) (add-zero a) ∙ sym (add-zero (count a f))
count_add a (suc b) f =
    ap (λ n. count n f) (add-suc a b) ∙ ap (λ n. n + cond (f (a + b)) 1 0) (count_add a b f)
    ∙ add_assoc (count a f) (count b (λ i. f (a + i))) (cond (f (a + b)) 1 0)

count_not : (n : ℕ) (f : ℕ → Bool) → count n f + count n (λ i. not (f i)) ≡ n
unfolding count
count_not zero f = refl
count_not (suc n) f = go (f n) (count_not n f)
  where
    go : (b : Bool) → count n f + count n (λ i. not (f i)) ≡ n → count n f + cond b 1 0 + (count n (λ i. not (f i)) + cond (not b) 1 0) ≡ suc n
    go true e = omega arith
    go false e = omega arith

-- the digit above m low ones, in one number or in both
module _ (m r t : ℕ) (rl : r < 2 ^ m) (tl : t < 2 ^ m) where
  with_high : (x : ℕ) → 2 ^ m + x ≡ 1 * 2 ^ m + x
  with_high x = omega arith

  without_high : (x : ℕ) → x ≡ 0 * 2 ^ m + x
  without_high x = omega arith

  high_left : bit_xor (2 ^ m + r) t ≡ 2 ^ m + bit_xor r t
  high_left = ap₂ bit_xor (with_high r) (without_high t) ∙ xor_block m 1 0 r t rl tl ∙ sym (with_high (bit_xor r t))

  high_right : bit_xor r (2 ^ m + t) ≡ 2 ^ m + bit_xor r t
  high_right = ap₂ bit_xor (without_high r) (with_high t) ∙ xor_block m 0 1 r t rl tl ∙ sym (with_high (bit_xor r t))

  high_both : bit_xor (2 ^ m + r) (2 ^ m + t) ≡ bit_xor r t
  high_both = ap₂ bit_xor (with_high r) (with_high t) ∙ xor_block m 1 1 r t rl tl ∙ sym (without_high (bit_xor r t))

-- to add s to each number below 2 ^ m only moves them about
count_xor : (m s : ℕ) (f : ℕ → Bool) → s < 2 ^ m → count (2 ^ m) (λ i. f (bit_xor i s)) ≡ count (2 ^ m) f
count_xor zero s f l = count_same 1 (λ i. f (bit_xor i s)) f (λ i _. ap f (ap (bit_xor i) (lt-one l) ∙ xor_zero_r i))
count_xor (suc m) s f l =
    halves (λ i. f (bit_xor i s))
    ∙ elim (dec_lt s (2 ^ m)) [
      | yes h ↦
          ap₂ (λ a b. a + b) (count_xor m s f h)
          (count_same (2 ^ m) (λ i. f (bit_xor (2 ^ m + i) s)) (λ i. f (2 ^ m + bit_xor i s)) (λ i il. ap f (high_left m i s il h))
          ∙ count_xor m s (λ i. f (2 ^ m + i)) h)
      | no n ↦
          let h : s - 2 ^ m < 2 ^ m = omega (arith, two-pow-succ m) in
          let e : s ≡ 2 ^ m + (s - 2 ^ m) = omega arith in
          ap₂ (λ a b. a + b)
          (count_same (2 ^ m) (λ i. f (bit_xor i s)) (λ i. f (2 ^ m + bit_xor i (s - 2 ^ m))) (λ i il. ap f (ap (bit_xor i) e ∙ high_right m i (s - 2 ^ m) il h))
          ∙ count_xor m (s - 2 ^ m) (λ i. f (2 ^ m + i)) h)
          (count_same (2 ^ m) (λ i. f (bit_xor (2 ^ m + i) s)) (λ i. f (bit_xor i (s - 2 ^ m))) (λ i il. ap f (ap (bit_xor (2 ^ m + i)) e ∙ high_both m i (s - 2 ^ m) il h))
          ∙ count_xor m (s - 2 ^ m) f h)
          ∙ add_comm (count (2 ^ m) (λ i. f (2 ^ m + i))) (count (2 ^ m) f)
    ]
    ∙ sym (halves f)
  where
    halves : (g : ℕ → Bool) → count (2 ^ suc m) g ≡ count (2 ^ m) g + count (2 ^ m) (λ i. g (2 ^ m + i))
    halves g = ap (λ n. count n g) (two-pow-succ m) ∙ count_add (2 ^ m) (2 ^ m) g

-- where column j' is another one, the rows dark for j are as many as the white ones
turned_half : (k j j' : ℕ) → 2 ≤ k → j < k → j' < k → j ≢ j' → count (rows k) (λ i. dark i j) ≡ 2 ^ (k - 2)
unfolding rows meets
turned_half k j j' kl jk jk' d =
    let s : ℕ = meets (meets 0 j) j' in
    let whole : count (rows k) (λ i. dark i j) + count (rows k) (λ i. not (dark i j)) ≡ 2 ^ (k - 1) = count_not (rows k) (λ i. dark i j) in
    let white : count (rows k) (λ i. not (dark i j)) ≡ count (rows k) (λ i. dark i j) =
    count_same (rows k) (λ i. not (dark i j)) (λ i. dark (bit_xor i s) j)
    (λ i l. sym (ap (λ x. dark x j) (sym (xor_assoc i (2 ^ j - 1) (2 ^ j' - 1))) ∙ cross_own i j j' d))
    ∙ count_xor (k - 1) s (λ i. dark i j) (meets_lt k (meets 0 j) j' (meets_lt k 0 j (pow_pos (k - 1)) jk) jk') in
    let e : 2 ^ (k - 1) ≡ 2 ^ suc (k - 2) = ap (λ n. 2 ^ n) (less_one k kl) in
    omega arith
  where
    less_one : (k : ℕ) → 2 ≤ k → k - 1 ≡ suc (k - 2)
    less_one k l = omega arith

pub dark_half : DarkHalf
dark_half k zero kl jk = turned_half k 0 1 kl jk kl (omega arith)
dark_half k (suc j) kl jk = turned_half k (suc j) 0 kl jk (omega arith) (omega arith)
