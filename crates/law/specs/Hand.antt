-- The data at hand, in every state of a tray.
use Rattle.std.specs.Prelude.{◌≡◌, ℕ, ◌+◌, ◌<◌, true, false, cond, not, ◌≢◌, List, length, ◌==◌, bit_xor, slice_index}
use Rattle.tray.specs.Meaning.{Meaning}
use Rattle.code.specs.Numbers.{only, xorsum}
use Rattle.code.specs.Code.{Blocks, Rule, dark, meets, gives}
use Rattle.law.specs.Service.{Columns, Sole}
use Rattle.law.specs.Holding.{Data, Whole, held, Fits}

-- the sum of f over the data columns other than j
unfoldable pub others : ℕ → ℕ → (ℕ → ℕ) → ℕ
others k j f = xorsum k (λ c. only (not (c == j)) (f c))

-- row i of data column j by the row's sum: h(i) xor the other data blocks of the row
unfoldable pub by_row : ℕ → Blocks → ℕ → ℕ → ℕ
by_row k M j i = bit_xor (M i k) (others k j (M i))

-- what is held, with column j by the rows' sums
unfoldable pub with_row : ℕ → Blocks → ℕ → Blocks
with_row k M j i c = cond (c == j) (by_row k M j i) (M i c)

-- row i of data column j by the line n through it: b(n) xor all other blocks in its sum
unfoldable pub by_line : ℕ → Rule → Blocks → ℕ → ℕ → ℕ
by_line k right M j i = bit_xor (M (meets i j) (k + 1)) (others k j (λ c. gives k right (with_row k M j) (meets (meets i j) c) c))

-- data column j where it alone is out: dark rows by the row's sum, white rows by the line
unfoldable pub regained : ℕ → Rule → Blocks → ℕ → ℕ → ℕ
regained k right M j i = cond (dark i j) (by_row k M j i) (by_line k right M j i)

-- a block of this size with these bytes
pub record Bytes (size : ℕ) (v : List ℕ) (byte : ℕ → ℕ) : Type 0 where
  pub long : length v ≡ size
  pub each : (b : ℕ) → b < size → slice_index v b ≡ byte b

-- v is the data at hand in row i of data column j
pub record AtHand (k : ℕ) (right : Rule) (size : ℕ) (out : Columns) (m : Meaning) (i j : ℕ) (v : List ℕ) : Type 0 where
  -- in service: as the tray holds it
  pub served : out j ≡ false → v ≡ m.block j i
  -- the only column out: by its row's sum or its line
  pub sole : Sole k out j → Bytes size v (λ b. regained k right (held m b) j i)
  -- out with another column: the k columns in service fit just one data, and v is its block
  pub solved : out j ≡ true → (q : ℕ) → q < k + 2 → q ≢ j → out q ≡ true → (D : Data) × Whole k size D × Fits k right size out D m × (v ≡ D i j)
