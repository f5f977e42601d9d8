-- Places in a memory: two of them do not overlap, and what a block written at one leaves at each.
use Rattle.std.proofs.Common.{◌≡◌, ℕ, ◌+◌, ◌*◌, ◌<◌, ◌≤◌, ◌⊎◌, List, length, take, drop, sym, ap, inl, inr, ⊎_elim, mul-le-mul_right, add-mul, arith, rules}
use lib.Seq.{paste}
use Rattle.std.proofs.lemmas.List.{places, same_lists}
use Rattle.std.proofs.lemmas.Nat.{mul-add-lt}
use Rattle.std.proofs.lemmas.Bool.{cases_order}
use Rattle.tray.specs.FlatTrays.{start_of}

-- two slots of one size do not overlap
later : (size m n : ℕ) → m < n → m * size + size ≤ n * size
later size m n h = let p : m + 1 ≤ n = omega arith in omega (arith, mul-le-mul_right size p, add-mul m 1 size)

pub slots_apart : (size m n : ℕ) → (m ≡ n → ⊥) → (m * size + size ≤ n * size) ⊎ (n * size + size ≤ m * size)
slots_apart size m n ne = ⊎_elim (λ e. absurd (ne e)) (⊎_elim (λ l. inl (later size m n l)) (λ l. inr (later size n m l))) (cases_order m n)

-- nor do two places of a flat tray
pub places_apart : (rows size c r j i : ℕ) → r < rows → i < rows → (j ≡ c → i ≡ r → ⊥) → (start_of rows size c r + size ≤ start_of rows size j i) ⊎ (start_of rows size j i + size ≤ start_of rows size c r)
places_apart rows size c r j i hr hi ne =
    slots_apart size (c * rows + r) (j * rows + i)
    (λ e.
    ⊎_elim (λ p. ne (sym p) (let q : r ≡ i = omega (arith, ap (λ n. n * rows) p) in sym q))
    (⊎_elim
    (λ l. omega (arith, mul-add-lt c rows r j l hr))
    (λ l. omega (arith, mul-add-lt j rows i c l hi)))
    (cases_order c j))

-- what a block put at a place leaves there, and at any other
pub put_there : (cells bytes : List ℕ) (at n : ℕ) → n ≡ length bytes → at + n ≤ length cells → take n (drop at (paste cells at bytes n)) ≡ bytes
put_there cells bytes at n e h = same_lists _ _ (search (rules, places)) (λ k d l. grind (arith, places))

pub put_elsewhere : (cells bytes : List ℕ) (at n b : ℕ) → n ≡ length bytes → at + n ≤ length cells → (at + n ≤ b) ⊎ (b + n ≤ at) → take n (drop b (paste cells at bytes n)) ≡ take n (drop b cells)
put_elsewhere cells bytes at n b e h w = same_lists _ _ (search (rules, places)) (λ k d l. grind (arith, places))
