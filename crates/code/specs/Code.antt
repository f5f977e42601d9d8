-- The rules of the butterfly code over one byte lane: which number stands in which column and row, for a width k
-- and a rule of right neighbours.
-- Rows and lines are numbers below `rows k`. The data columns are those below k; column k is the horizontal parity
-- and holds a sum for each row; column k + 1 is the butterfly parity and holds a sum for each line.
use Rattle.std.specs.Prelude.{ℕ, zero, suc, ◌-◌, ◌/◌, ◌%◌, ◌^◌, Bool, cond, ◌&&◌, ◌==◌, bit_xor, nat_lt}
use Rattle.code.specs.Numbers.{only, xorsum}

-- what the data columns hold: `D i j` stands in row i of column j
abbrev pub Blocks : Type 0
Blocks = ℕ → ℕ → ℕ

-- x at the place (i, j), in row i of column j, and nothing elsewhere
unfoldable pub spot : ℕ → ℕ → ℕ → Blocks
spot i j x i' j' = only (i' == i && j' == j) x

-- `right j j'`: column j' is a right neighbour of column j
abbrev pub Rule : Type 0
Rule = ℕ → ℕ → Bool

unfoldable pub rows : ℕ → ℕ
rows k = 2 ^ (k - 1)

-- bit j of the number i, bit 0 being the lowest
unfoldable pub bit : ℕ → ℕ → ℕ
bit i j = i / 2 ^ j % 2

-- bit j - 1, where bit -1 is 0
unfoldable pub under : ℕ → ℕ → ℕ
under i zero = 0
under i (suc j) = bit i j

-- the place (i, j) is dark; otherwise it is white
unfoldable pub dark : ℕ → ℕ → Bool
dark i j = bit i j == under i j

-- the row in which line n meets column j; also the line that meets column j in row n
unfoldable pub meets : ℕ → ℕ → ℕ
meets n j = bit_xor n (2 ^ j - 1)

-- the horizontal block of row i: the sum of the row
unfoldable pub horizontal : ℕ → Blocks → ℕ → ℕ
horizontal k D i = xorsum k (D i)

-- what the right neighbours of column j hold in row i
unfoldable pub beside : ℕ → Rule → Blocks → ℕ → ℕ → ℕ
beside k right D i j = xorsum k (λ j'. only (right j j') (D i j'))

-- what the line that meets column j in row i takes there: the block of the place and, where the place is dark,
-- also the blocks of the same row in the right neighbours of j
unfoldable pub gives : ℕ → Rule → Blocks → ℕ → ℕ → ℕ
gives k right D i j = bit_xor (D i j) (only (dark i j) (beside k right D i j))

-- the butterfly block of line n: the sum of what it takes in each column
unfoldable pub butterfly : ℕ → Rule → Blocks → ℕ → ℕ
butterfly k right D n = xorsum k (λ j. gives k right D (meets n j) j)

-- what column c holds in row r
unfoldable pub value : ℕ → Rule → Blocks → ℕ → ℕ → ℕ
value k right D c r = cond (nat_lt c k) (D r c) (cond (c == k) (horizontal k D r) (butterfly k right D r))
