-- What an argument names.
use Rattle.std.specs.Prelude.{◌≡◌, ℕ, true, List, Some, None, Option, ◌≢◌}
use Rattle.std.specs.Str.Parse.{IsNumeral, digits_value, without_leading_plus}
use Rattle.code.specs.Widths.{is_width}

-- the width that a text writes in decimal digits, if it writes one
abbrev pub NamesWidth : List ℕ → Option ℕ → Type 0
NamesWidth text (Some k) = IsNumeral 10 (without_leading_plus text) × (digits_value 10 (without_leading_plus text) ≡ k) × (is_width k ≡ true)
NamesWidth text None = IsNumeral 10 (without_leading_plus text) → is_width (digits_value 10 (without_leading_plus text)) ≢ true
