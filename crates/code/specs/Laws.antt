-- What the code promises, for every width and every rule of right neighbours that has the tournament law.
use Rattle.std.specs.Prelude.{◌≡◌, ℕ, ◌+◌, ◌-◌, ◌^◌, ◌<◌, ◌≤◌, Bool, true, false, cond, not, ◌&&◌, ◌≢◌, List, length, ◌==◌, bit_xor, slice_index}
use Rattle.code.specs.Numbers.{only, count}
use Rattle.code.specs.Code.{Blocks, Rule, rows, dark, meets, horizontal, butterfly, value}
use Rattle.code.specs.Neighbours.{Tournament}
use Rattle.code.specs.Lines.{holds}

-- ---- any two columns come back

-- Whichever two of the k + 2 columns are lost, the others tell all data.
abbrev pub AnyTwo : Type 0
AnyTwo =
    (k : ℕ) (right : Rule) → Tournament k right
    → (p q : ℕ) → p < k + 2 → q < k + 2 → p ≢ q
    → (D E : Blocks) → ((c r : ℕ) → c < k + 2 → c ≢ p → c ≢ q → r < rows k → value k right D c r ≡ value k right E c r)
    → (i j : ℕ) → i < rows k → j < k → D i j ≡ E i j

-- Blocks are lists of bytes, and byte b of each block is a lane of its own.
abbrev pub lane : (ℕ → ℕ → List ℕ) → ℕ → Blocks
lane D b i j = slice_index (D i j) b

-- The same for blocks of any number of bytes.
abbrev pub AnyTwoBlocks : Type 0
AnyTwoBlocks =
    (k size : ℕ) (right : Rule) → Tournament k right
    → (p q : ℕ) → p < k + 2 → q < k + 2 → p ≢ q
    → (D E : ℕ → ℕ → List ℕ) → ((i j : ℕ) → i < rows k → j < k → length (D i j) ≡ size) → ((i j : ℕ) → i < rows k → j < k → length (E i j) ≡ size)
    → ((c r b : ℕ) → c < k + 2 → c ≢ p → c ≢ q → r < rows k → b < size → value k right (lane D b) c r ≡ value k right (lane E b) c r)
    → (i j : ℕ) → i < rows k → j < k → D i j ≡ E i j

-- ---- half of the others is enough for one data column

-- two data agree on the rows dark for column j in the other data columns and in the horizontal one, and on the
-- lines of its white rows in the butterfly one
pub record AgreeOnHalf (k : ℕ) (right : Rule) (j : ℕ) (D E : Blocks) : Type 0 where
  pub columns : (i c : ℕ) → i < rows k → dark i j ≡ true → c < k → c ≢ j → D i c ≡ E i c
  pub sums : (i : ℕ) → i < rows k → dark i j ≡ true → horizontal k D i ≡ horizontal k E i
  pub lines : (i : ℕ) → i < rows k → dark i j ≡ false → butterfly k right D (meets i j) ≡ butterfly k right E (meets i j)

-- These tell the column. (No law of the rule is needed.)
abbrev pub Half : Type 0
Half =
    (k : ℕ) (right : Rule) (j : ℕ) → j < k → (D E : Blocks) → AgreeOnHalf k right j D E
    → (i : ℕ) → i < rows k → D i j ≡ E i j

-- And they are half: of the rows, half are dark for each column.
abbrev pub DarkHalf : Type 0
DarkHalf = (k j : ℕ) → 2 ≤ k → j < k → count (rows k) (λ i. dark i j) ≡ 2 ^ (k - 2)

-- ---- what a new block at one place changes

-- x put at the place (i, j)
unfoldable pub changed : Blocks → ℕ → ℕ → ℕ → Blocks
changed D i j x i' j' = cond (i' == i && j' == j) x (D i' j')

-- the difference of the old and the new block goes to the sum of the row, and to every line that holds the place
pub record Changes (k : ℕ) (right : Rule) (D : Blocks) (i j x : ℕ) : Type 0 where
  pub row : (r : ℕ) → horizontal k (changed D i j x) r ≡ bit_xor (horizontal k D r) (only (r == i) (bit_xor (D i j) x))
  pub line : (n : ℕ) → butterfly k right (changed D i j x) n ≡ bit_xor (butterfly k right D n) (only (holds k right n i j) (bit_xor (D i j) x))

abbrev pub PutRule : Type 0
PutRule = (k : ℕ) (right : Rule) → Tournament k right → (D : Blocks) (i j x : ℕ) → j < k → Changes k right D i j x

-- ---- the order in which two lost columns are solved

-- row v is white at column i, which is neither p nor q
unfoldable pub light : ℕ → ℕ → ℕ → ℕ → Bool
light p q v i = not (dark v i) && not (i == p) && not (i == q)

-- at how many data columns other than p and q row v is white
unfoldable pub whites : ℕ → ℕ → ℕ → ℕ → ℕ
whites k p q v = count k (light p q v)

-- rows of lower rank come first: those with fewer white places, and of these, the ones white at q
unfoldable pub rank : ℕ → ℕ → ℕ → ℕ → ℕ
rank k p q v = whites k p q v + whites k p q v + cond (dark v q) 1 0

-- Data columns p and q are lost, p being a right neighbour of q. M has the other columns of D, and blocks in p and q
-- that give each row its sum. If M is right in the rows of lower rank, then what is wrong in row v is what is wrong in
-- the line through (v, p).
abbrev pub SolveTwo : Type 0
SolveTwo =
    (k : ℕ) (right : Rule) → Tournament k right → (p q : ℕ) → p < k → q < k → p ≢ q → right q p ≡ true
    → (D M : Blocks) → ((i c : ℕ) → i < rows k → c < k → c ≢ p → c ≢ q → D i c ≡ M i c) → ((i : ℕ) → i < rows k → horizontal k D i ≡ horizontal k M i)
    → (v : ℕ) → v < rows k → ((u : ℕ) → u < rows k → rank k p q u < rank k p q v → D u p ≡ M u p)
    → bit_xor (D v p) (M v p) ≡ bit_xor (butterfly k right D (meets v p)) (butterfly k right M (meets v p))

-- The same for a data column p that is lost with the horizontal column.
abbrev pub SolveOne : Type 0
SolveOne =
    (k : ℕ) (right : Rule) → Tournament k right → (p : ℕ) → p < k
    → (D M : Blocks) → ((i c : ℕ) → i < rows k → c < k → c ≢ p → D i c ≡ M i c)
    → (v : ℕ) → v < rows k → ((u : ℕ) → u < rows k → whites k p k u < whites k p k v → D u p ≡ M u p)
    → bit_xor (D v p) (M v p) ≡ bit_xor (butterfly k right D (meets v p)) (butterfly k right M (meets v p))
