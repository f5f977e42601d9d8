-- What an accepted call owes can be kept in every state of a tray, also where the columns in service fit nothing.
use Rattle.std.specs.Prelude.{◌≡◌, ℕ, ◌+◌, ◌<◌, ◌≤◌, true, List, length}
use Rattle.tray.specs.Meaning.{Meaning, Sized}
use Rattle.code.specs.Code.{Rule, rows}
use Rattle.code.specs.Neighbours.{Tournament}
use Rattle.law.specs.Service.{Columns, AtMostTwo}
use Rattle.law.specs.Holding.{Shaped}
use Rattle.law.specs.Calls.{Got, Put, Rebuilt}

-- there is a tray that each of these calls may leave
pub record Possible (k : ℕ) (right : Rule) (size : ℕ) (out : Columns) (m : Meaning) : Type 0 where
  pub a_get : (j i : ℕ) → j < k → i < rows k → (v : List ℕ) × (m' : Meaning) × Sized m' × Got k right size out m j i v m'
  pub a_put : (j i : ℕ) (x : List ℕ) → j < k → i < rows k → length x ≡ size → (m' : Meaning) × Sized m' × Put k right size out m j i x m'
  pub a_rebuild : (c : ℕ) → c < k + 2 → out c ≡ true
      → (answer : ℕ) × (out' : Columns) × (m' : Meaning) × Sized m' × Rebuilt k right size out m c answer out' m'

-- (up to the width at which a column's rows can be told by a tally)
abbrev pub CallsCanBeKept : Type 0
CallsCanBeKept =
    (k : ℕ) (right : Rule) → Tournament k right → k ≤ 32 → (size : ℕ) (out : Columns) (m : Meaning) → Shaped k size m → Sized m → AtMostTwo out
    → Possible k right size out m
