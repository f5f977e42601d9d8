-- Which data columns are right neighbours of which.
use Rattle.std.specs.Prelude.{◌≡◌, ℕ, ◌+◌, ◌-◌, ◌/◌, ◌%◌, ◌<◌, Bool, false, not, ◌&&◌, ◌≢◌, nat_le, nat_lt}
use Rattle.code.specs.Code.{Rule}

-- The tournament law, all that the code asks of a rule: no column is its own right neighbour, and of two different
-- columns exactly one is the right neighbour of the other.
pub record Tournament (k : ℕ) (right : Rule) : Type 0 where
  pub not_own : (j : ℕ) → j < k → right j j ≡ false
  pub one_way : (p q : ℕ) → p < k → q < k → p ≢ q → right p q ≡ not (right q p)

-- how far column j' lies before column j, going round the k columns
unfoldable pub distance : ℕ → ℕ → ℕ → ℕ
distance k j j' = (j + k - j') % k

-- a distance from 1 to (k - 1) / 2
unfoldable pub near : ℕ → ℕ → Bool
near k d = nat_le 1 d && nat_le d ((k - 1) / 2)

-- The published rule: the right neighbours of a data column are the data columns that lie near before it.
unfoldable pub published : ℕ → Rule
published k j j' = (nat_lt j k && nat_lt j' k) && near k (distance k j j')
