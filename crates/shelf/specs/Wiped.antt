-- A tray with one block at many places.
use Rattle.std.specs.Prelude.{ℕ, cond, ◌&&◌, List, ◌==◌, nat_lt}
use Rattle.tray.specs.Meaning.{Meaning}

-- a tray with other blocks
abbrev pub holding : Meaning → (ℕ → ℕ → List ℕ) → Meaning
holding m blocks = record { columns = m.columns; rows = m.rows; size = m.size; answers = m.answers; block = blocks; tally = m.tally }

-- the block in the rows below n of column c
abbrev pub wiped_column : Meaning → ℕ → ℕ → List ℕ → Meaning
wiped_column m c n block = holding m (λ j i. cond (j == c && nat_lt i n) block (m.block j i))

-- the block in the rows below n of the columns below w
abbrev pub wiped : Meaning → ℕ → ℕ → List ℕ → Meaning
wiped m w n block = holding m (λ j i. cond (nat_lt j w && nat_lt i n) block (m.block j i))
