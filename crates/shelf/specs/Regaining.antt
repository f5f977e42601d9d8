-- A data column j that alone is out: its blocks, found by reading half of every other column.
use Rattle.std.specs.Prelude.{◌≡◌, ℕ, ◌+◌, ◌-◌, ◌^◌, ◌<◌, Bool, true, false, cond, not, ◌&&◌, ◌≢◌, List, ◌==◌, bit_xor, nat_eq, nat_lt, slice_index}
use Rattle.std.specs.Bool.{beq}
use Rattle.tray.specs.Meaning.{Meaning}
use Rattle.code.specs.Numbers.{only}
use Rattle.code.specs.Code.{Blocks, Rule, rows, dark, meets, butterfly, gives}
use Rattle.code.specs.Lines.{takes}
use Rattle.law.specs.Holding.{held}
use Rattle.law.specs.Hand.{by_row, with_row, regained}
use Rattle.shelf.specs.Slots.{slot, row_slot, line_slot}
use Rattle.shelf.specs.Reading.{Heard}

-- a tray of this shape, of which data column j alone is out, and the others answer
pub record Alone (k size : ℕ) (m : Meaning) (j : ℕ) : Type 0 where
  pub column : j < k
  pub heard : Heard k size (nat_eq j) m

-- ---- what is read

-- one block of each data column other than j below t
abbrev pub once_below : ℕ → ℕ → ℕ → ℕ
once_below j t c = cond (nat_lt c t && not (c == j)) 1 0

-- n blocks of each other data column and of the horizontal one
abbrev pub of_rows : ℕ → ℕ → ℕ → ℕ → ℕ
of_rows k j n c = cond (nat_lt c (k + 1) && not (c == j)) n 0

-- half of every other column
abbrev pub half_of : ℕ → ℕ → ℕ → ℕ
half_of k j c = cond (nat_lt c (k + 2) && not (c == j)) (2 ^ (k - 2)) 0

-- ---- where the blocks are found

-- the slot of row i of the column: that of the row if the place is dark, else that of the line through it
abbrev pub sole_slot : ℕ → ℕ → ℕ → ℕ
sole_slot k j i = cond (dark i j) i (rows k + meets i j)

-- every row of it lies in its slot, where M is what the columns hold, lane by lane
abbrev pub Found : ℕ → Rule → ℕ → ℕ → (ℕ → Blocks) → List ℕ → Type 0
Found k right size j M work =
    (i b : ℕ) → i < rows k → b < size → slot size work (sole_slot k j i) b ≡ regained k right (M b) j i

-- ---- one row

-- row i of data E, and nothing elsewhere
unfoldable pub row_of : ℕ → Blocks → Blocks
row_of i E i' c = only (i' == i) (E i' c)

-- the columns below t other than j, and nothing elsewhere
unfoldable pub below : ℕ → ℕ → Blocks → Blocks
below j t E i c = only (nat_lt c t && not (c == j)) (E i c)

-- the sums of data E that go to the lines, but for the line through the place (i, j)
unfoldable pub lines_but : ℕ → Rule → ℕ → ℕ → Blocks → ℕ → ℕ
lines_but k right i j E n = only (not (n == meets i j)) (butterfly k right E n)

-- byte b of row i of column c, unless that is column j
abbrev pub unless : Meaning → ℕ → ℕ → ℕ → ℕ → ℕ
unless m i j c b = only (not (c == j)) (held m b i c)

-- row i of the column lies in the slot of the row, and all data of the row are added to the lines but for the one
-- through the place (i, j)
pub record RowFound (k : ℕ) (right : Rule) (size j : ℕ) (M : ℕ → Blocks) (i : ℕ) (was after : List ℕ) : Type 0 where
  pub here : (b : ℕ) → b < size → row_slot size after b i ≡ by_row k (M b) j i
  pub rest : (b r : ℕ) → b < size → r < rows k → r ≢ i → row_slot size after b r ≡ row_slot size was b r
  pub line : (b n : ℕ) → b < size → n < rows k
      → line_slot k size after b n ≡ bit_xor (line_slot k size was b n) (lines_but k right i j (row_of i (with_row k (M b) j)) n)

-- ---- row after row

-- the lines of the white rows below n are read
abbrev pub LinesRead : ℕ → ℕ → ℕ → (ℕ → Blocks) → ℕ → List ℕ → Type 0
LinesRead k size j M n work =
    (b i : ℕ) → b < size → i < n → dark i j ≡ false → line_slot k size work b (meets i j) ≡ M b (meets i j) (k + 1)

-- the rows below n that are dark for j
unfoldable pub dark_below : ℕ → ℕ → Blocks → Blocks
dark_below j n E i c = only (nat_lt i n && dark i j) (E i c)

-- the dark rows below n are found, and their data are added to the lines of the white rows
pub record Halfway (k : ℕ) (right : Rule) (size j : ℕ) (M : ℕ → Blocks) (n : ℕ) (work : List ℕ) : Type 0 where
  pub row : (b i : ℕ) → b < size → i < n → dark i j ≡ true → row_slot size work b i ≡ by_row k (M b) j i
  pub line : (b i : ℕ) → b < size → i < rows k → dark i j ≡ false
      → line_slot k size work b (meets i j) ≡ bit_xor (M b (meets i j) (k + 1)) (butterfly k right (dark_below j n (with_row k (M b) j)) (meets i j))

-- ---- one block

-- bytes were added to a block
abbrev pub BytesAdded : ℕ → List ℕ → (ℕ → ℕ) → List ℕ → Type 0
BytesAdded size was f after = (b : ℕ) → b < size → slice_index after b ≡ bit_xor (slice_index was b) (f b)

-- Where a line meets column t in row i, it may take the block of column j, and then that is the sum of all others in the
-- row. So the block of column c counts if the line takes just one of the blocks of the columns c and j.
unfoldable pub wants : Rule → ℕ → ℕ → ℕ → ℕ → Bool
wants right i t j c = not (c == j) && not (beq (takes right i t c) (takes right i t j))

-- what a line takes where it meets column t in row i, with column j by the rows' sums
abbrev pub taken : ℕ → Rule → Blocks → ℕ → ℕ → ℕ → ℕ
taken k right M j i t = gives k right (with_row k M j) i t
