-- What a drill does to its roster, and how it carries runs.
use Rattle.std.specs.Prelude.{ℕ, Ok, Err, Result}
use Rattle.tray.specs.declared.fault.Fault.{Fault}
use Rattle.tray.specs.Meaning.{Meaning, Sized}
use Rattle.code.specs.Neighbours.{published}
use Rattle.law.specs.Promises.{told_start, CarriesIn, CarriesOut}
use Rattle.shelf.specs.Rosters.{Rostered, back_in, out_of, shelf_on}

-- the roster at a drill's end: the column that the drill took out is back, and an idle one restores nothing
abbrev pub ended : Result (Unit {0}) Fault → ℕ → Rostered → Rostered
ended (Ok _) c r = back_in r c
ended (Err _) c r = r

-- A run that stands at the start of a drill of column c, with the roster r, goes on inside it, with the roster r'; and
-- from there, whatever gets were made, it goes on at the drill's end. So on every tray.
pub record DrillCarries (r : Rostered) (c : ℕ) (taken : Result (Unit {0}) Fault) (r' : Rostered) : Type 0 where
  pub starts : (m : Meaning) (sized : Sized m)
      → CarriesIn r.width (published r.width) r.size (shelf_on r m sized) (told_start taken c) (shelf_on r' m sized)
  pub ends : (m : Meaning) (sized : Sized m)
      → CarriesOut r.width (published r.width) r.size (out_of r) (told_start taken c) (shelf_on r' m sized) (shelf_on (ended taken c r') m sized)
