-- What a get and a put know of their tray once their checks are passed.
use Rattle.std.specs.Prelude.{◌≡◌, ℕ, ◌<◌, true, List}
use Rattle.tray.specs.Meaning.{Meaning}
use Rattle.code.specs.Code.{rows}
use Rattle.shelf.specs.declared.roster.missing.Missing.{Missing}
use Rattle.shelf.specs.Missing.{is_out, are_columns}
use Rattle.shelf.specs.Slots.{Room}
use Rattle.shelf.specs.Reading.{Heard}

-- the place in row i of data column j is within reach: the columns in service answer, and there is a work space
pub record Reach (k size : ℕ) (out : Missing) (m : Meaning) (j i : ℕ) (work : List ℕ) : Type 0 where
  pub room : Room k size work
  pub heard : Heard k size (is_out out) m
  pub columns : are_columns k out ≡ true
  pub column : j < k
  pub row : i < rows k
