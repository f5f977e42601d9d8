-- The limits of the trays that come with the kit.
use Rattle.std.specs.Prelude.{ℕ, ◌*◌, Bool, ◌&&◌, nat_le}

-- A flat tray has at most so many columns, rows in a column, and bytes in a block.
abbrev pub flat_columns : ℕ
flat_columns = 13

abbrev pub flat_rows : ℕ
flat_rows = 1024

abbrev pub flat_size : ℕ
flat_size = 512

-- Whether a shape is within the limits, and a memory of n bytes has room for it.
abbrev pub has_room : ℕ → ℕ → ℕ → ℕ → Bool
has_room columns rows size n = nat_le columns flat_columns && (nat_le rows flat_rows && (nat_le size flat_size && nat_le (columns * rows * size) n))

-- The two halves of a split tray have at most so many columns together.
abbrev pub split_columns : ℕ
split_columns = 13
