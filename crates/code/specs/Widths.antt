-- The widths that a shelf takes: its number of data columns.
use Rattle.std.specs.Prelude.{ℕ, ◌%◌, Bool, ◌&&◌, ◌==◌, nat_le, nat_lt}
use Rattle.code.specs.Code.{rows}

-- an odd number from 3 to 11
unfoldable pub is_width : ℕ → Bool
is_width k = nat_le 3 k && (nat_le k 11 && k % 2 == 1)

-- n is a line of a shelf of width k
abbrev pub is_line : ℕ → ℕ → Bool
is_line k n = is_width k && nat_lt n (rows k)

-- (i, j) is a place of a shelf of width k, in row i of data column j
abbrev pub is_place : ℕ → ℕ → ℕ → Bool
is_place k i j = is_width k && (nat_lt i (rows k) && nat_lt j k)
