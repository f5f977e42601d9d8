-- What a tray means, and what its calls answer and leave. Every make is proved against these.
use Rattle.std.specs.Prelude.{◌≡◌, ℕ, ◌+◌, ◌%◌, ◌^◌, ◌<◌, Bool, true, false, cond, ◌&&◌, List, [], length, Some, None, Ok, Err, Result, ◌==◌, nat_lt}
use Rattle.tray.specs.declared.fault.Refusal.TheVariants as refusal
use Rattle.tray.specs.declared.fault.Fault.{Fault}
use Rattle.tray.specs.Refusals.{tray_fault, silent_fault}

-- A tray: its shape (columns, rows, bytes in a block), whether each column answers, the block at
-- each column and row, and the reads of each column, counted modulo 2^32.
pub record Meaning : Type 0 where
  pub columns : ℕ
  pub rows : ℕ
  pub size : ℕ
  pub answers : ℕ → Bool
  pub block : ℕ → ℕ → List ℕ
  pub tally : ℕ → ℕ

-- A block at a place of the shape has the size that the shape tells.
abbrev pub Sized : Meaning → Type 0
Sized m = (c r : ℕ) → c < m.columns → r < m.rows → length (m.block c r) ≡ m.size

-- Tallies are counted modulo 2^32.
abbrev pub Wraps : Meaning → Type 0
Wraps m = (c : ℕ) → m.tally c < 2 ^ 32

-- A tray with no columns, no rows and blocks of no bytes.
abbrev pub empty : Meaning
empty = record { columns = 0; rows = 0; size = 0; answers = λ _. false; block = λ _ _. []; tally = λ _. 0 }

-- What a read or a write at column c and row r answers, with a buffer of n bytes: the column, the
-- row, the buffer and then the column's silence are looked at, and nothing else.
abbrev pub verdict : Meaning → ℕ → ℕ → ℕ → Result (Unit {0}) Fault
verdict m c r n =
    cond (nat_lt c m.columns)
    (cond (nat_lt r m.rows)
    (cond (n == m.size)
    (cond (m.answers c) (Ok tt) (Err (silent_fault c)))
    (Err (tray_fault refusal.WrongBuffer (Some c) (Some r))))
    (Err (tray_fault refusal.RowTooHigh (Some c) (Some r))))
    (Err (tray_fault refusal.ColumnTooHigh (Some c) (Some r)))

-- What it takes for a read or a write to be accepted: a place of the shape, a buffer of one block,
-- and a column that answers.
pub record Ready (m : Meaning) (c r n : ℕ) : Type 0 where
  pub column : c < m.columns
  pub row : r < m.rows
  pub size : n ≡ m.size
  pub answers : m.answers c ≡ true

-- What a question about column c answers, where v is the answer for a column of the tray.
abbrev pub asked : {X : Type 0} → Meaning → ℕ → X → Result X Fault
asked m c v = cond (nat_lt c m.columns) (Ok v) (Err (tray_fault refusal.ColumnTooHigh (Some c) None))

-- One more read of column c.
abbrev pub tallied : Meaning → ℕ → Meaning
tallied m c = record { columns = m.columns; rows = m.rows; size = m.size; answers = m.answers; block = m.block; tally = λ j. cond (j == c) ((m.tally c + 1) % 2 ^ 32) (m.tally j) }

-- A block written at column c and row r.
abbrev pub stored : Meaning → ℕ → ℕ → List ℕ → Meaning
stored m c r bytes = record { columns = m.columns; rows = m.rows; size = m.size; answers = m.answers; block = λ j i. cond (j == c && i == r) bytes (m.block j i); tally = m.tally }

-- The answering flag of column c set.
abbrev pub switched : Meaning → ℕ → Bool → Meaning
switched m c on = record { columns = m.columns; rows = m.rows; size = m.size; answers = λ j. cond (j == c) on (m.answers j); block = m.block; tally = m.tally }

-- x where a call was accepted, and y where it was refused.
abbrev pub if_ok : {X Y Z : Type 0} → Result X Y → Z → Z → Z
if_ok (Ok _) x y = x
if_ok (Err _) x y = y
