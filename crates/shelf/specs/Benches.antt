-- What a call on the bench does: the bench before it and after it.
use Rattle.std.specs.Prelude.{◌≡◌, ℕ, Bool, List, length, ◌==◌}
use Rattle.code.specs.Numbers.{only}
use Rattle.code.specs.Code.{Blocks, horizontal, butterfly}
use Rattle.code.specs.Neighbours.{published}
use Rattle.shelf.specs.declared.bench.Bench.{Bench}
use Rattle.shelf.specs.Slots.{Plus, SlotAdded, IsSlot, Filled, nothing, one}
use Rattle.tray.specs.Meaning.{Meaning}
use Rattle.law.specs.Service.{Columns}
use Rattle.shelf.specs.declared.roster.missing.Missing.{Missing}
use Rattle.shelf.specs.Reading.{Gathered}
use Rattle.shelf.specs.Recovering.{Found, Finds}
use Rattle.shelf.specs.Regaining.{lines_but, RowFound, LinesRead, Halfway}
use Rattle.shelf.specs.Regaining as regaining
use Rattle.shelf.specs.Solving.{from_rows, Settled, Solving}

-- the bench keeps its width, the lengths of its block and of its work space, and both of its borrows
pub record Kept (old new : Bench) : Type 0 where
  pub width : new.k ≡ old.k
  pub size : length new.block.now ≡ length old.block.now
  pub room : length new.work.now ≡ length old.work.now
  pub block-lender : new.block.ghost_name ≡ old.block.ghost_name
  pub work-lender : new.work.ghost_name ≡ old.work.ghost_name

-- the size of its block
abbrev pub size_of : Bench → ℕ
size_of s = length s.block.now

-- the block was added to slot n
pub record SlotAdds (n : ℕ) (old new : Bench) : Type 0 where
  pub kept : Kept old new
  pub block : new.block.now ≡ old.block.now
  pub work : SlotAdded (size_of old) old.work.now n old.block.now new.work.now

-- the block is what slot n holds
pub record SlotCopied (n : ℕ) (old new : Bench) : Type 0 where
  pub kept : Kept old new
  pub block : IsSlot (size_of old) old.work.now n new.block.now
  pub work : new.work.now ≡ old.work.now

-- the block is now x
pub record BlockRead (x : List ℕ) (old new : Bench) : Type 0 where
  pub kept : Kept old new
  pub block : new.block.now ≡ x
  pub work : new.work.now ≡ old.work.now

-- what was added to each row's slot and to each line's; the block stays
pub record Adds (g f : ℕ → ℕ → ℕ) (old new : Bench) : Type 0 where
  pub kept : Kept old new
  pub block : new.block.now ≡ old.block.now
  pub work : Plus old.k.number (size_of old) old.work.now g f new.work.now

-- the sums of the block, as that of a place, were added
abbrev pub AddsPlace : ℕ → ℕ → Bench → Bench → Type 0
AddsPlace i j old =
    Adds (λ b. horizontal old.k.number (one i j old.block.now b)) (λ b. butterfly old.k.number (published old.k.number) (one i j old.block.now b)) old

-- what was added to each row's slot and to each line's; the block may end as anything
pub record AddsSums (g f : ℕ → ℕ → ℕ) (old new : Bench) : Type 0 where
  pub kept : Kept old new
  pub work : Plus old.k.number (size_of old) old.work.now g f new.work.now

-- the sums of data E, lane by lane, were added
abbrev pub AddsData : (ℕ → Blocks) → Bench → Bench → Type 0
AddsData E old = AddsSums (λ b. horizontal old.k.number (E b)) (λ b. butterfly old.k.number (published old.k.number) (E b)) old

-- the slots from `first` on, n of them, were filled with `f`
pub record Fills (first n : ℕ) (f : ℕ → ℕ → ℕ) (old new : Bench) : Type 0 where
  pub kept : Kept old new
  pub block : new.block.now ≡ old.block.now
  pub work : Filled (size_of old) old.work.now first n f new.work.now

-- the sums on the bench are those of what a tray has in service
pub record Gathers (out : Columns) (m : Meaning) (old new : Bench) : Type 0 where
  pub kept : Kept old new
  pub work : Gathered old.k.number (published old.k.number) (size_of old) out m new.work.now

-- whatever tray they were gathered from, the sums were turned into the missing columns, and `by` lies by rows
pub record FindsMissing (out : Missing) (by : ℕ) (old new : Bench) : Type 0 where
  pub kept : Kept old new
  pub work : Finds old.k.number (published old.k.number) (size_of old) out old.work.now by new.work.now

-- what the row slots hold was added, as blocks of column j, to the lines that hold them
abbrev pub Spreads : ℕ → Bench → Bench → Type 0
Spreads j old = AddsSums nothing (λ b. butterfly old.k.number (published old.k.number) (from_rows (size_of old) old.work.now j b)) old

-- every missing column is found, for whatever data the columns in service fit
pub record Recovers (out : Columns) (m : Meaning) (by : ℕ) (old new : Bench) : Type 0 where
  pub kept : Kept old new
  pub work : Found old.k.number (published old.k.number) (size_of old) out m by new.work.now

-- row v was settled
pub record Settles (p q v : ℕ) (old new : Bench) : Type 0 where
  pub kept : Kept old new
  pub work : Settled old.k.number (published old.k.number) (size_of old) p q v old.work.now new.work.now

-- on the way to any data D, the rows in `done` were settled, and those in `then` are
pub record Leads (p q : ℕ) (done then : ℕ → Bool) (old new : Bench) : Type 0 where
  pub kept : Kept old new
  pub work : (D : ℕ → Blocks) → Solving old.k.number (published old.k.number) (size_of old) p q D done old.work.now
      → Solving old.k.number (published old.k.number) (size_of old) p q D then new.work.now

-- ---- a data column j that alone is out, where M is what the columns hold, lane by lane

-- g was added to the slot of row i, and the sums of data E to those of the lines, but for the line through the place (i, j)
abbrev pub AddsRow : ℕ → ℕ → (ℕ → ℕ) → (ℕ → Blocks) → Bench → Bench → Type 0
AddsRow i j g E old = AddsSums (λ b r. only (r == i) (g b)) (λ b. lines_but old.k.number (published old.k.number) i j (E b)) old

-- row i of the column was found, and added to the lines but for the one through its own place
pub record FindsRow (j : ℕ) (M : ℕ → Blocks) (i : ℕ) (old new : Bench) : Type 0 where
  pub kept : Kept old new
  pub work : RowFound old.k.number (published old.k.number) (size_of old) j M i old.work.now new.work.now

-- the lines of the white rows below n are read
abbrev pub HasLines : ℕ → (ℕ → Blocks) → ℕ → Bench → Type 0
HasLines j M n s = LinesRead s.k.number (size_of s) j M n s.work.now

-- the same after a call, which leaves the block
pub record ReadsLines (j : ℕ) (M : ℕ → Blocks) (n : ℕ) (old new : Bench) : Type 0 where
  pub kept : Kept old new
  pub block : new.block.now ≡ old.block.now
  pub work : LinesRead old.k.number (size_of old) j M n new.work.now

-- the dark rows below n are found, and their data are added to the lines of the white rows
abbrev pub IsHalfway : ℕ → (ℕ → Blocks) → ℕ → Bench → Type 0
IsHalfway j M n s = Halfway s.k.number (published s.k.number) (size_of s) j M n s.work.now

-- the same after a call
pub record GetsHalfway (j : ℕ) (M : ℕ → Blocks) (n : ℕ) (old new : Bench) : Type 0 where
  pub kept : Kept old new
  pub work : Halfway old.k.number (published old.k.number) (size_of old) j M n new.work.now

-- every row of the column lies in its slot
pub record FindsSole (j : ℕ) (M : ℕ → Blocks) (old new : Bench) : Type 0 where
  pub kept : Kept old new
  pub work : regaining.Found old.k.number (published old.k.number) (size_of old) j M new.work.now
