-- Solving two lost columns in the work space: data column p with data column q, of which p is a right neighbour, or with
-- the horizontal column, which is q = k. The slots of rows and lines hold sums of what is still unknown.
use Rattle.std.specs.Prelude.{◌≡◌, ℕ, ◌<◌, ◌≤◌, Bool, true, false, not, ◌&&◌, ◌||◌, ◌≢◌, List, ◌==◌, bit_xor, nat_lt}
use Rattle.code.specs.Numbers.{only}
use Rattle.code.specs.Code.{Blocks, Rule, rows, meets, butterfly, value}
use Rattle.code.specs.Laws.{rank}
use Rattle.shelf.specs.Slots.{row_slot, line_slot, Plus, holds_but}

-- the row slots of lane b as blocks of column j, and nothing elsewhere
abbrev pub from_rows : ℕ → List ℕ → ℕ → ℕ → Blocks
from_rows size work j b i c = only (c == j) (row_slot size work b i)

-- row v was settled: what its line holds was added to its row, and as blocks of p and of q to the other lines that hold them
abbrev pub Settled : ℕ → Rule → ℕ → ℕ → ℕ → ℕ → List ℕ → List ℕ → Type 0
Settled k right size p q v was after =
    Plus k size was (λ b r. only (r == v) (line_slot k size was b (meets v p)))
    (λ b n. bit_xor (only (holds_but k right v p p n) (line_slot k size was b (meets v p))) (only (holds_but k right v q k n) (line_slot k size was b (meets v p)))) after

-- what is still unknown of data D where the rows in `done` are settled: column p as it is, and the same in column q
unfoldable pub unknown : (ℕ → Bool) → ℕ → ℕ → Blocks → Blocks
unknown done p q D i c = only ((c == p || c == q) && not (done i)) (D i p)

-- the work space on the way to data D: a settled row has its block of column q in the row's slot and its block of column p in
-- the slot of the line through it; any other row still lacks its block of p, and its line has the sum of what is unknown
pub record Solving (k : ℕ) (right : Rule) (size p q : ℕ) (D : ℕ → Blocks) (done : ℕ → Bool) (work : List ℕ) : Type 0 where
  pub row : (b r : ℕ) → b < size → r < rows k → row_slot size work b r ≡ bit_xor (value k right (D b) q r) (only (not (done r)) (D b r p))
  pub sought : (b r : ℕ) → b < size → r < rows k → done r ≡ false → line_slot k size work b (meets r p) ≡ butterfly k right (unknown done p q (D b)) (meets r p)
  pub found : (b r : ℕ) → b < size → r < rows k → done r ≡ true → line_slot k size work b (meets r p) ≡ D b r p

-- the rows settled before row v of rank r: those of lower rank, and those of rank r below v
abbrev pub before : ℕ → ℕ → ℕ → ℕ → ℕ → ℕ → Bool
before k p q r v u = nat_lt (rank k p q u) r || (rank k p q u == r && nat_lt u v)

-- two columns that are solved so
pub record Pair (k : ℕ) (right : Rule) (p q : ℕ) : Type 0 where
  pub first : p < k
  pub second : q ≤ k
  pub apart : p ≢ q
  pub neighbour : q < k → right q p ≡ true
