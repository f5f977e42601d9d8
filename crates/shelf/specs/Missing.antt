-- The columns out of service, and what every roster keeps.
use Rattle.std.specs.Prelude.{ℕ, ◌+◌, Bool, true, false, cond, not, ◌&&◌, ◌||◌, ◌==◌, nat_le, nat_lt}
use Rattle.code.specs.Widths.{is_width}
use Rattle.shelf.specs.declared.roster.missing.Missing.{Missing}
use Rattle.shelf.specs.declared.roster.missing.Missing.TheVariants.{Nothing, One, Two}

-- whether a column is out
abbrev pub is_out : Missing → ℕ → Bool
is_out Nothing c = false
is_out (One a) c = a == c
is_out (Two a b) c = a == c || b == c

-- no column is out
abbrev pub is_empty : Missing → Bool
is_empty Nothing = true
is_empty (One a) = false
is_empty (Two a b) = false

-- two columns are out
abbrev pub is_full : Missing → Bool
is_full Nothing = false
is_full (One a) = false
is_full (Two a b) = true

-- one more column out
abbrev pub added : Missing → ℕ → Missing
added Nothing c = One c
added (One a) c = Two a c
added (Two a b) c = Two a b

-- one fewer, looking for it at the latest first
abbrev pub removed : Missing → ℕ → Missing
removed Nothing c = Nothing
removed (One a) c = cond (a == c) Nothing (One a)
removed (Two a b) c = cond (b == c) (One a) (cond (a == c) (One b) (Two a b))

-- each is a column of the shelf, and none is named twice
abbrev pub are_columns : ℕ → Missing → Bool
are_columns width Nothing = true
are_columns width (One a) = nat_lt a (width + 2)
are_columns width (Two a b) = nat_lt a (width + 2) && (nat_lt b (width + 2) && not (a == b))

-- the bytes of a block: 1 to 512
abbrev pub is_size : ℕ → Bool
is_size size = nat_le 1 size && nat_le size 512

-- what every roster keeps
abbrev pub keeps : ℕ → ℕ → Missing → Bool
keeps width size missing = is_width width && (is_size size && are_columns width missing)
