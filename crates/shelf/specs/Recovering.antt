-- Where the blocks of missing columns lie in the work space once they are found.
use Rattle.std.specs.Prelude.{◌≡◌, ℕ, ◌+◌, ◌<◌, Bool, true, false, cond, List, ◌==◌, nat_lt}
use Rattle.tray.specs.Meaning.{Meaning}
use Rattle.code.specs.Code.{Rule, rows, meets, value}
use Rattle.code.specs.Laws.{lane}
use Rattle.law.specs.Service.{Columns}
use Rattle.law.specs.Holding.{Data, Fits}
use Rattle.shelf.specs.declared.roster.missing.Missing.{Missing}
use Rattle.shelf.specs.declared.roster.missing.Missing.TheVariants.{Nothing, One, Two}
use Rattle.shelf.specs.Missing.{is_out}
use Rattle.shelf.specs.Slots.{slot}
use Rattle.shelf.specs.Reading.{Gathered}

-- a data column alone is out
abbrev pub is_sole_data : ℕ → Missing → Bool
is_sole_data k Nothing = false
is_sole_data k (One a) = nat_lt a k
is_sole_data k (Two a b) = false

-- the slot of row r of column c: that of the row if the column is the one that lies by rows, else that of the line through
-- the place; the butterfly column lies by lines as it is
unfoldable pub slot_for : ℕ → ℕ → ℕ → ℕ → ℕ
slot_for k by c r = cond (c == by) r (rows k + cond (nat_lt c k) (meets r c) r)

-- every missing column is found: for whatever data the columns in service fit, its slots hold what the rules give
abbrev pub Found : ℕ → Rule → ℕ → Columns → Meaning → ℕ → List ℕ → Type 0
Found k right size out m by work =
    (D : Data) → Fits k right size out D m
    → (c r b : ℕ) → c < k + 2 → out c ≡ true → r < rows k → b < size → slot size work (slot_for k by c r) b ≡ value k right (lane D b) c r

-- whatever tray they were gathered from, the sums in the work space were turned into the missing columns
abbrev pub Finds : ℕ → Rule → ℕ → Missing → List ℕ → ℕ → List ℕ → Type 0
Finds k right size out was by after = (m : Meaning) → Gathered k right size (is_out out) m was → Found k right size (is_out out) m by after
