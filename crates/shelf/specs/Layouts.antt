-- What a layout answers and leaves.
use Rattle.std.specs.Prelude.{ℕ, ◌+◌, cond, ◌&&◌, [], replicate, IfOk, None, Ok, Err, Result}
use Rattle.tray.specs.declared.fault.Refusal.TheVariants as refusal
use Rattle.tray.specs.declared.fault.Fault.{Fault}
use Rattle.tray.specs.Refusals.{shelf_fault}
use Rattle.tray.specs.Meaning.{Meaning, Sized}
use Rattle.code.specs.Widths.{is_width}
use Rattle.code.specs.Code.{rows}
use Rattle.code.specs.Neighbours.{published}
use Rattle.law.specs.Runs.{between, Run}
use Rattle.shelf.specs.declared.roster.Roster.{Roster}
use Rattle.shelf.specs.Missing.{is_size}
use Rattle.shelf.specs.Rosters.{Rostered, roster_of, full_roster, shelf_on}
use Rattle.shelf.specs.Checks.{laying}
use Rattle.shelf.specs.Wiped.{wiped}

-- an answered roster, by its parts
abbrev pub made_of : Result Roster Fault → Result Rostered Fault
made_of (Ok r) = Ok (roster_of r)
made_of (Err f) = Err f

-- x, unless there is a refusal
abbrev pub given : {X : Type 0} → Result (Unit {0}) Fault → X → Result X Fault
given (Ok _) x = Ok x
given (Err f) x = Err f

-- the answer within the limits is x
abbrev pub in_limits : {X : Type 0} → ℕ → ℕ → Result X Fault → Result X Fault
in_limits width size x = cond (is_width width && is_size size) x (Err (shelf_fault refusal.OutsideLimits None None))

-- a new roster
abbrev pub making : ℕ → ℕ → Result Rostered Fault
making width size = in_limits width size (Ok (full_roster width size))

-- what a layout answers: the limits, then the tray
abbrev pub laying_out : ℕ → ℕ → Meaning → Result Rostered Fault
laying_out width size m = in_limits width size (given (laying (full_roster width size) m) (full_roster width size))

-- zeros everywhere
abbrev pub zeroed : ℕ → ℕ → Meaning → Meaning
zeroed width size m = wiped m (width + 2) (rows width) (replicate size 0)

-- an accepted layout begins a run: the shelf stands at its end, with no call made yet
abbrev pub Begins : Result Roster Fault → (m : Meaning) → Sized m → Type 0
Begins answer m sized = IfOk (made_of answer) (λ r. Run r.width (published r.width) r.size [] between (shelf_on r m sized))
