-- The work space of a call: a slot of one block for each row, and behind them one for each line.
use Rattle.std.specs.Prelude.{◌≡◌, ℕ, ◌+◌, ◌-◌, ◌*◌, ◌<◌, ◌≤◌, Bool, cond, not, ◌&&◌, Some, None, Option, List, length, ◌==◌, bit_xor, nat_le, nat_lt, slice_index}
use Rattle.code.specs.Numbers.{only, xorsum}
use Rattle.code.specs.Code.{Blocks, Rule, spot, rows, meets}
use Rattle.code.specs.Lines.{takes, holds}

-- byte b of slot s, where slots have `size` bytes
unfoldable pub slot : ℕ → List ℕ → ℕ → ℕ → ℕ
slot size work s b = slice_index work (s * size + b)

-- byte b in the slots of row r and of line n
abbrev pub row_slot : ℕ → List ℕ → ℕ → ℕ → ℕ
row_slot size work b r = slot size work r b

abbrev pub line_slot : ℕ → ℕ → List ℕ → ℕ → ℕ → ℕ
line_slot k size work b n = slot size work (rows k + n) b

-- a work space that has a slot for each row and each line of a width
pub record Room (k size : ℕ) (work : List ℕ) : Type 0 where
  pub large : 2 * rows k * size ≤ length work

-- the first n bytes of a block added from `at` on, as a loop goes
abbrev pub AddedUpTo : List ℕ → ℕ → List ℕ → ℕ → List ℕ → Type 0
AddedUpTo was at block n after =
    (k : ℕ) → slice_index after k ≡ cond (nat_le at k && nat_lt k (at + n)) (bit_xor (slice_index was k) (slice_index block (k - at))) (slice_index was k)

-- a block added to slot s
abbrev pub SlotAdded : ℕ → List ℕ → ℕ → List ℕ → List ℕ → Type 0
SlotAdded size was s block after =
    (t b : ℕ) → b < size → slot size after t b ≡ bit_xor (slot size was t b) (only (t == s) (slice_index block b))

-- a block is what slot s holds
abbrev pub IsSlot : ℕ → List ℕ → ℕ → List ℕ → Type 0
IsSlot size work s block = (b : ℕ) → b < size → slice_index block b ≡ slot size work s b

-- slot s was set: its byte b is `f b`
abbrev pub SlotSet : ℕ → List ℕ → ℕ → (ℕ → ℕ) → List ℕ → Type 0
SlotSet size was s f after = (t b : ℕ) → b < size → slot size after t b ≡ cond (t == s) (f b) (slot size was t b)

-- the slots from `first` on, n of them, were filled: byte b of the t-th of them with `f t b`
abbrev pub Filled : ℕ → List ℕ → ℕ → ℕ → (ℕ → ℕ → ℕ) → List ℕ → Type 0
Filled size was first n f after =
    (t b : ℕ) → b < size → slot size after t b ≡ cond (nat_le first t && nat_lt t (first + n)) (f (t - first) b) (slot size was t b)

-- what was added to each row's slot and to each line's: to byte b of row r `g b r`, and of line n `f b n`
pub record Plus (k size : ℕ) (was : List ℕ) (g f : ℕ → ℕ → ℕ) (after : List ℕ) : Type 0 where
  pub row : (b r : ℕ) → b < size → r < rows k → row_slot size after b r ≡ bit_xor (row_slot size was b r) (g b r)
  pub line : (b n : ℕ) → b < size → n < rows k → line_slot k size after b n ≡ bit_xor (line_slot k size was b n) (f b n)

abbrev pub nothing : ℕ → ℕ → ℕ
nothing b s = 0

-- a block x in row i of column j, and nothing elsewhere, lane by lane
abbrev pub one : ℕ → ℕ → List ℕ → ℕ → Blocks
one i j x b = spot i j (slice_index x b)

-- the number of the data column to skip, if there is one; else the number k, which no data column has
abbrev pub to_skip : ℕ → Option ℕ → ℕ
to_skip k None = k
to_skip k (Some t) = t

-- a block of the place (i, j) goes to the line that meets column t in row i: the line takes the place there, and t is not
-- the column to skip
unfoldable pub passes : Rule → ℕ → ℕ → ℕ → ℕ → Bool
passes right i j skip t = not (t == skip) && takes right i t j

-- what byte b of line n gets of the block x of the place (i, j) by the columns below t
unfoldable pub passed : Rule → ℕ → ℕ → ℕ → List ℕ → ℕ → ℕ → ℕ → ℕ
passed right i j skip x t b n = xorsum t (λ s. only (n == meets i s && passes right i j skip s) (slice_index x b))

-- line n holds the place (i, j), and it is not the line through the place of the column to skip
unfoldable pub holds_but : ℕ → Rule → ℕ → ℕ → ℕ → ℕ → Bool
holds_but k right i j skip n = holds k right n i j && not (n == meets i skip)

-- what byte b of line n gets of it by all columns
unfoldable pub to_lines : ℕ → Rule → ℕ → ℕ → ℕ → List ℕ → ℕ → ℕ → ℕ
to_lines k right i j skip x b n = only (holds_but k right i j skip n) (slice_index x b)
