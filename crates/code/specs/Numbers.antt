-- Sums, counts and lists over the numbers below n.
use Rattle.std.specs.Prelude.{ℕ, zero, suc, ◌+◌, Bool, false, cond, ◌||◌, List, [], ◌∷◌, ◌++◌, bit_xor}

-- x where the test holds, and nothing elsewhere
unfoldable pub only : Bool → ℕ → ℕ
only b x = cond b x 0

-- f 0 xor f 1 xor .. xor f (n - 1)
unfoldable pub xorsum : ℕ → (ℕ → ℕ) → ℕ
xorsum zero f = 0
xorsum (suc n) f = bit_xor (xorsum n f) (f n)

-- how many numbers below n pass a test
unfoldable pub count : ℕ → (ℕ → Bool) → ℕ
count zero f = 0
count (suc n) f = count n f + cond (f n) 1 0

-- whether one of them does
unfoldable pub any : ℕ → (ℕ → Bool) → Bool
any zero f = false
any (suc n) f = any n f || f n

-- those that do, in order
unfoldable pub those : ℕ → (ℕ → Bool) → List ℕ
those zero f = []
those (suc n) f = those n f ++ cond (f n) (n ∷ []) []
