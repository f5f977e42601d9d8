-- The data at hand are pinned: there is exactly one block for each place in every state of a tray, also where the columns
-- in service fit nothing.
use Rattle.std.specs.Prelude.{◌≡◌, ℕ, ◌+◌, ◌<◌, false, ◌≢◌, List}
use Rattle.tray.specs.Meaning.{Meaning}
use Rattle.code.specs.Code.{Blocks, Rule, rows, value}
use Rattle.code.specs.Neighbours.{Tournament}
use Rattle.law.specs.Service.{Columns, AtMostTwo}
use Rattle.law.specs.Holding.{Data, Whole, Fits}
use Rattle.law.specs.Hand.{AtHand}

-- Whatever the columns other than p and q hold, it is what the rules give for some data.
abbrev pub SomeData : Type 0
SomeData =
    (k : ℕ) (right : Rule) → Tournament k right → (p q : ℕ) → p < k + 2 → q < k + 2 → p ≢ q → (M : Blocks)
    → (D : Blocks) × ((c r : ℕ) → c < k + 2 → c ≢ p → c ≢ q → r < rows k → value k right D c r ≡ M r c)

-- The same for the blocks of a tray.
abbrev pub SomeBlocks : Type 0
SomeBlocks =
    (k : ℕ) (right : Rule) → Tournament k right → (size : ℕ) (out : Columns) (m : Meaning)
    → (p q : ℕ) → p < k + 2 → q < k + 2 → p ≢ q → ((c : ℕ) → c < k + 2 → out c ≡ false → (c ≢ p) × (c ≢ q))
    → (D : Data) × Whole k size D × Fits k right size out D m

-- some block is at hand at the place (i, j), and no other
pub record OneBlock (k : ℕ) (right : Rule) (size : ℕ) (out : Columns) (m : Meaning) (i j : ℕ) : Type 0 where
  pub some : (v : List ℕ) × AtHand k right size out m i j v
  pub only_one : (v w : List ℕ) → AtHand k right size out m i j v → AtHand k right size out m i j w → v ≡ w

abbrev pub AtHandIsPinned : Type 0
AtHandIsPinned =
    (k : ℕ) (right : Rule) → Tournament k right → (size : ℕ) (out : Columns) (m : Meaning) → AtMostTwo out
    → (i j : ℕ) → i < rows k → j < k → OneBlock k right size out m i j
