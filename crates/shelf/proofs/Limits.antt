-- What every roster keeps.
use Rattle.std.proofs.Common.{◌≡◌, Bool, true, false, ◌&&◌, sym, refl, true≢false}
use Rattle.code.specs.Widths.{is_width}
use Rattle.code.proofs.Limits.{Width, a_width}
use Rattle.shelf.specs.Missing.{is_size, are_columns, keeps}
use Rattle.shelf.specs.Rosters.{Rostered}

pub first : (a b : Bool) → a && b ≡ true → a ≡ true
first true b e = refl
first false b e = e

pub second : (a b : Bool) → a && b ≡ true → b ≡ true
second true b e = e
second false b e = absurd (true≢false (sym e))

module _ (r : Rostered) (kept : keeps r.width r.size r.missing ≡ true) where
  pub is_width-kept : is_width r.width ≡ true
  is_width-kept = first (is_width r.width) (is_size r.size && are_columns r.width r.missing) kept

  pub kept_width : Width r.width
  kept_width = a_width r.width is_width-kept

  pub are_columns-kept : are_columns r.width r.missing ≡ true
  are_columns-kept =
      second (is_size r.size) (are_columns r.width r.missing)
      (second (is_width r.width) (is_size r.size && are_columns r.width r.missing) kept)
