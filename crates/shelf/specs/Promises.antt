-- What the calls on a roster promise, in the law's words: r is the roster before the call, m the tray; m' is the tray after
-- it, and r' the roster where the call may change it.
use Rattle.std.specs.Prelude.{ℕ, List, Option, Result}
use Rattle.tray.specs.declared.fault.Fault.{Fault}
use Rattle.tray.specs.Meaning.{Meaning, Sized}
use Rattle.code.specs.Neighbours.{published}
use Rattle.law.specs.Runs.{Event, Inner, pull}
use Rattle.law.specs.Promises.{Pulls, Gets, Puts, Rebuilds, Sweeps, told, Carries, CarriesInside}
use Rattle.shelf.specs.Rosters.{Rostered, out_of, shelf_on}

-- ---- what the calls do

abbrev pub PullsOn : Rostered → ℕ → Result (Unit {0}) Fault → Rostered → Type 0
PullsOn r c answer r' = Pulls r.width (out_of r) c answer (out_of r')

-- `was` is the block buffer before the get, and v after it
abbrev pub GetsOn : Rostered → Meaning → ℕ → ℕ → List ℕ → Result (Unit {0}) Fault → List ℕ → Meaning → Type 0
GetsOn r m c i was answer v m' = Gets r.width (published r.width) r.size (out_of r) m c i was answer v m'

abbrev pub PutsOn : Rostered → Meaning → ℕ → ℕ → List ℕ → Result (Unit {0}) Fault → Meaning → Type 0
PutsOn r m c i block answer m' = Puts r.width (published r.width) r.size (out_of r) m c i block answer m'

abbrev pub RebuildsOn : Rostered → Meaning → ℕ → Result ℕ Fault → Rostered → Meaning → Type 0
RebuildsOn r m c answer r' m' = Rebuilds r.width (published r.width) r.size (out_of r) m c answer (out_of r') m'

abbrev pub SweepsOn : Rostered → Meaning → Result (Option (ℕ × ℕ)) Fault → Meaning → Type 0
SweepsOn r m answer m' = Sweeps r.width (published r.width) r.size (out_of r) m answer m'

-- ---- how they carry every run of the shelf on

abbrev pub CarriesOn : Rostered → (m : Meaning) → Sized m → Event → Rostered → (m' : Meaning) → Sized m' → Type 0
CarriesOn r m sized e r' m' sized' = Carries r.width (published r.width) r.size (shelf_on r m sized) e (shelf_on r' m' sized')

-- a pull, whatever the tray
abbrev pub PullCarries : Rostered → ℕ → Result (Unit {0}) Fault → Rostered → Type 0
PullCarries r c answer r' = (m : Meaning) (sized : Sized m) → CarriesOn r m sized (told answer (pull c)) r' m sized

-- a get inside a drill
abbrev pub CarriesInsideOn : Rostered → (m : Meaning) → Sized m → Inner → (m' : Meaning) → Sized m' → Type 0
CarriesInsideOn r m sized made m' sized' = CarriesInside r.width (published r.width) r.size (shelf_on r m sized) made (shelf_on r m' sized')
