-- Which places a line sums, and which lines hold a place.
use Rattle.std.specs.Prelude.{ℕ, zero, suc, Bool, false, ◌&&◌, ◌||◌, List, [], ◌∷◌, ◌++◌, map, ◌==◌, bit_xor}
use Rattle.code.specs.Numbers.{any, those}
use Rattle.code.specs.Code.{Blocks, Rule, dark, meets}

-- where it meets column t in row i, a line takes the block of column j: t is that column, or the meeting place is
-- dark and j is a right neighbour of t
unfoldable pub takes : Rule → ℕ → ℕ → ℕ → Bool
takes right i t j = t == j || (dark i t && right t j)

-- the sum of line n holds the place (i, j)
unfoldable pub holds : ℕ → Rule → ℕ → ℕ → ℕ → Bool
holds k right n i j = any k (λ t. (meets n t == i) && takes right i t j)

-- whether n stands in a list
unfoldable pub among : ℕ → List ℕ → Bool
among n [] = false
among n (m ∷ ms) = m == n || among n ms

-- the lines that hold the place (i, j), by the columns that they meet in row i
unfoldable pub lines_of : ℕ → Rule → ℕ → ℕ → List ℕ
lines_of k right i j = map (meets i) (those k (λ t. takes right i t j))

-- places in row i
abbrev pub in_row : ℕ → List ℕ → List (ℕ × ℕ)
in_row i columns = map (λ j. (i, j)) columns

-- the places, each a row and a column, that line n takes where it meets the columns below t
unfoldable pub places_below : ℕ → Rule → ℕ → ℕ → List (ℕ × ℕ)
places_below k right n zero = []
places_below k right n (suc t) = places_below k right n t ++ in_row (meets n t) (those k (takes right (meets n t) t))

-- the places that line n sums
unfoldable pub places_of : ℕ → Rule → ℕ → List (ℕ × ℕ)
places_of k right n = places_below k right n k

-- the sum of the blocks at some places
unfoldable pub sum_of : Blocks → List (ℕ × ℕ) → ℕ
sum_of D [] = 0
sum_of D (p ∷ ps) = bit_xor (D p.0 p.1) (sum_of D ps)
