-- What a call reads of a tray that it has checked.
use Rattle.std.specs.Prelude.{◌≡◌, ℕ, ◌+◌, ◌%◌, ◌^◌, ◌<◌, Bool, true, false, cond, not, ◌&&◌, List, ◌==◌, bit_xor, nat_lt}
use Rattle.tray.specs.Meaning.{Meaning}
use Rattle.code.specs.Numbers.{only, any}
use Rattle.code.specs.Code.{Blocks, Rule, rows, horizontal, butterfly}
use Rattle.law.specs.Service.{Columns}
use Rattle.law.specs.Holding.{Shaped, held}
use Rattle.shelf.specs.Slots.{row_slot, line_slot}

-- a tray of this shape whose column c answers
pub record Answers (k size : ℕ) (m : Meaning) (c : ℕ) : Type 0 where
  pub shape : Shaped k size m
  pub column : c < k + 2
  pub flag : m.answers c ≡ true

-- the tray after f c reads of each column c
abbrev pub after_reads : Meaning → (ℕ → ℕ) → Meaning
after_reads m f =
    record {
      columns = m.columns;
      rows = m.rows;
      size = m.size;
      answers = m.answers;
      block = m.block;
      tally = λ c. (m.tally c + f c) % 2 ^ 32;
    }

-- n reads of column j, and none of the others
abbrev pub times : ℕ → ℕ → ℕ → ℕ
times j n c = cond (c == j) n 0

-- the rows below n of column j, and nothing elsewhere
abbrev pub part : ℕ → ℕ → Blocks → Blocks
part j n M i c = only (c == j && nat_lt i n) (M i c)

-- column j if it is in service, and nothing elsewhere
abbrev pub in_service : Columns → ℕ → Blocks → Blocks
in_service out j M i c = only (not (out c) && c == j) (M i c)

-- n reads of each column in service below j
abbrev pub each_below : Columns → ℕ → ℕ → ℕ → ℕ
each_below out n j c = cond (not (out c) && nat_lt c j) n 0

-- the columns in service below n, and nothing elsewhere
abbrev pub served : Columns → ℕ → Blocks → Blocks
served out n M i c = only (not (out c) && nat_lt c n) (M i c)

-- a data column is out
abbrev pub data_out : ℕ → Columns → Bool
data_out k out = any k out

-- a parity column is read: it is in service, and needed since a data column is out
abbrev pub parity_read : ℕ → Columns → ℕ → Bool
parity_read k out c = data_out k out && not (out c)

-- the columns that are read to find what is missing
unfoldable pub is_read : ℕ → Columns → ℕ → Bool
is_read k out c = cond (nat_lt c k) (not (out c)) (nat_lt c (k + 2) && parity_read k out c)

-- each block of these is read once
abbrev pub once_each : ℕ → Columns → ℕ → ℕ
once_each k out c = cond (is_read k out c) (rows k) 0

-- the sums, once all data in service are added to the parities that are read, lane by lane: what the missing data are to add up to
pub record Gathered (k : ℕ) (right : Rule) (size : ℕ) (out : Columns) (m : Meaning) (work : List ℕ) : Type 0 where
  pub row : (b r : ℕ) → b < size → r < rows k
      → row_slot size work b r ≡ bit_xor (only (parity_read k out k) (held m b r k)) (horizontal k (served out k (held m b)) r)
  pub line : (b n : ℕ) → b < size → n < rows k
      → line_slot k size work b n ≡ bit_xor (only (parity_read k out (k + 1)) (held m b n (k + 1))) (butterfly k right (served out k (held m b)) n)

-- a tray of this shape, whose columns in service answer
pub record Heard (k size : ℕ) (out : Columns) (m : Meaning) : Type 0 where
  pub shape : Shaped k size m
  pub answers : (c : ℕ) → c < k + 2 → out c ≡ false → m.answers c ≡ true
