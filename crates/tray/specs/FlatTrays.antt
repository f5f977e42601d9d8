-- What a flat tray means: a memory that holds its blocks column after column, row after row within
-- a column, beside a table with one record for each column.
use Rattle.std.specs.Prelude.{◌≡◌, ℕ, ◌+◌, ◌*◌, ◌%◌, ◌^◌, cond, ◌&&◌, List, [], length, take, drop, nat_lt, slice_index_or}
use Rattle.std.proofs.Math.Seq.{paste}
use Rattle.tray.specs.declared.flat.Flat.{Flat}
use Rattle.tray.specs.declared.flat.columns.Column.{Column}
use Rattle.tray.specs.FlatColumns.{absent}
pub use Rattle.tray.specs.Limits.{has_room}
use Rattle.tray.specs.Meaning.{Meaning, empty}

-- Where in the memory the block of column c and row r starts.
abbrev pub start_of : ℕ → ℕ → ℕ → ℕ → ℕ
start_of rows size c r = (c * rows + r) * size

-- The blocks that lie in a memory; places outside the shape hold none.
abbrev pub blocks_in : ℕ → ℕ → ℕ → List ℕ → ℕ → ℕ → List ℕ
blocks_in columns rows size cells c r = cond (nat_lt c columns && nat_lt r rows) (take size (drop (start_of rows size c r) cells)) []

-- A flat tray that has room, by its shape, table and memory.
abbrev pub roomy : ℕ → ℕ → ℕ → List Column → List ℕ → Meaning
roomy columns rows size table cells = record {
  columns = columns;
  rows = rows;
  size = size;
  answers = λ c. nat_lt c columns && (slice_index_or table c absent).answering;
  block = blocks_in columns rows size cells;
  tally = λ c. cond (nat_lt c columns) ((slice_index_or table c absent).reads % 2 ^ 32) 0;
}

-- A flat tray; it is empty where there is no room.
abbrev pub flat_meaning : ℕ → ℕ → ℕ → List Column → List ℕ → Meaning
flat_meaning columns rows size table cells = cond (has_room columns rows size (length cells)) (roomy columns rows size table cells) empty

-- It opens wherever a proof looks, so that the limits of a flat tray are known with no call.
abbrev pub flat_of : Flat → Meaning
flat_of t = flat_meaning t.shape.columns t.shape.rows t.shape.size t.table t.cells.now

-- A new flat tray that has room: all its columns answer, none was read, and the bytes of the memory
-- are its blocks.
abbrev pub fresh : ℕ → ℕ → ℕ → List ℕ → Meaning
fresh columns rows size cells = record {
  columns = columns;
  rows = rows;
  size = size;
  answers = λ c. nat_lt c columns;
  block = blocks_in columns rows size cells;
  tally = λ _. 0;
}

-- It is empty where there is no room.
abbrev pub new_flat : ℕ → ℕ → ℕ → List ℕ → Meaning
new_flat columns rows size cells = cond (has_room columns rows size (length cells)) (fresh columns rows size cells) empty

-- What a memory holds once a block is written at a place of a flat tray m that lies in it.
abbrev pub written : Meaning → ℕ → ℕ → List ℕ → List ℕ → List ℕ
written m c r bytes cells = paste cells (start_of m.rows m.size c r) bytes m.size

-- The memory of a tray stays the caller's own and holds the same bytes.
pub record SameCells (old new : Flat) : Type 0 where
  pub cells : new.cells.now ≡ old.cells.now
  pub lender : new.cells.ghost_name ≡ old.cells.ghost_name
