-- Sets of columns: those out of service, and those missing.
use Rattle.std.specs.Prelude.{◌≡◌, ℕ, ◌+◌, ◌<◌, Bool, true, false, not, ◌&&◌, ◌||◌, ◌≢◌, ◌==◌}

-- whether a column belongs to the set
abbrev pub Columns : Type 0
Columns = ℕ → Bool

abbrev pub no_columns : Columns
no_columns x = false

-- one column more
abbrev pub added : Columns → ℕ → Columns
added out c x = out x || x == c

-- one column fewer
abbrev pub removed : Columns → ℕ → Columns
removed out c x = out x && not (x == c)

abbrev pub AtMostOne : Columns → Type 0
AtMostOne out = (a b : ℕ) → out a ≡ true → out b ≡ true → a ≡ b

abbrev pub AtMostTwo : Columns → Type 0
AtMostTwo out = (a b c : ℕ) → out a ≡ true → out b ≡ true → out c ≡ true → a ≢ b → a ≢ c → b ≡ c

-- of the k + 2 columns exactly one is out, and it is column j
pub record Sole (k : ℕ) (out : Columns) (j : ℕ) : Type 0 where
  pub itself : out j ≡ true
  pub others : (c : ℕ) → c < k + 2 → c ≢ j → out c ≡ false
