-- The letters of the commands.
use Rattle.std.specs.Prelude.{ℕ, Bool, ◌||◌, ◌==◌}

-- L X R S G P Q D U F
abbrev pub is_letter : ℕ → Bool
is_letter c =
    (c == 76) || (c == 88 || (c == 82 || (c == 83 || (c == 71 || (c == 80 || (c == 81 || (c == 68 || (c == 85 || c == 70))))))))
