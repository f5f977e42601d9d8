-- What a tray's columns hold, against the rules of the code.
use Rattle.std.specs.Prelude.{◌≡◌, ℕ, ◌+◌, ◌<◌, false, List, length, slice_index}
use Rattle.tray.specs.Meaning.{Meaning}
use Rattle.code.specs.Code.{Blocks, Rule, rows, value}
use Rattle.code.specs.Laws.{lane}
use Rattle.law.specs.Service.{Columns}

-- data blocks: `D i j` are the bytes of the block in row i of data column j
abbrev pub Data : Type 0
Data = ℕ → ℕ → List ℕ

-- each of them has as many bytes as a block
abbrev pub Whole : ℕ → ℕ → Data → Type 0
Whole k size D = (i j : ℕ) → i < rows k → j < k → length (D i j) ≡ size

-- byte b of every block of a tray: `held m b r c` in row r of column c
abbrev pub held : Meaning → ℕ → Blocks
held m b r c = slice_index (m.block c r) b

-- the columns in service hold what the rules give for the data D
abbrev pub Fits : ℕ → Rule → ℕ → Columns → Data → Meaning → Type 0
Fits k right size out D m =
    (c r b : ℕ) → c < k + 2 → out c ≡ false → r < rows k → b < size → held m b r c ≡ value k right (lane D b) c r

-- a tray of k + 2 columns, of the rows of that width and of blocks of this size
pub record Shaped (k size : ℕ) (m : Meaning) : Type 0 where
  pub wide : m.columns ≡ k + 2
  pub tall : m.rows ≡ rows k
  pub deep : m.size ≡ size

-- the shape is as before
pub record SameShape (m m' : Meaning) : Type 0 where
  pub wide : m'.columns ≡ m.columns
  pub tall : m'.rows ≡ m.rows
  pub deep : m'.size ≡ m.size

-- the shape and the flags are as before
pub record SameFrame (m m' : Meaning) : Type 0 where
  pub shape : SameShape m m'
  pub answers : m'.answers ≡ m.answers

-- nothing but tallies differs
pub record Calm (m m' : Meaning) : Type 0 where
  pub frame : SameFrame m m'
  pub block : m'.block ≡ m.block
