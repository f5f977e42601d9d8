-- A sweep: parities against the sums of the data, place by place.
use Rattle.std.specs.Prelude.{◌≡◌, ℕ, ◌+◌, ◌-◌, ◌<◌, cond, List, Some, None, Option, Result, nat_lt}
use Rattle.tray.specs.declared.fault.Fault.{Fault}
use Rattle.tray.specs.Meaning.{Meaning, Sized}
use Rattle.code.specs.Code.{Rule, rows, value}
use Rattle.law.specs.Holding.{held}
use Rattle.law.specs.Runs.{sweep}
use Rattle.law.specs.Promises.{told}
use Rattle.shelf.specs.declared.sweep.Parity.{Parity}
use Rattle.shelf.specs.declared.sweep.Parity.TheVariants.{OfRow, OfLine}
use Rattle.shelf.specs.Rosters.{Rostered}
use Rattle.shelf.specs.Promises.{CarriesOn}
use Rattle.shelf.specs.Slots.{slot}

-- the column of a parity block, and its row or line there
abbrev pub place_of : ℕ → Parity → ℕ × ℕ
place_of k (OfRow row) = (k, row.0)
place_of k (OfLine line) = (k + 1, line.0)

-- the place whose sum lies in slot s: the rows come first, and then the lines
unfoldable pub parity_place : ℕ → ℕ → ℕ × ℕ
parity_place k s = cond (nat_lt s (rows k)) (k, s) (k + 1, s - rows k)

-- a slot holds what the data give for its place
abbrev pub Sums : ℕ → Rule → ℕ → Meaning → List ℕ → Type 0
Sums k right size m work =
    (s b : ℕ) → s < rows k + rows k → b < size → slot size work s b ≡ value k right (held m b) (parity_place k s).0 (parity_place k s).1

-- the tray holds at the place of slot s what the slot holds
abbrev pub Agrees : ℕ → ℕ → Meaning → List ℕ → ℕ → Type 0
Agrees k size m work s = (b : ℕ) → b < size → held m b (parity_place k s).1 (parity_place k s).0 ≡ slot size work s b

-- slot s is the first that does not agree, and p is its place
pub record FirstOff (k size : ℕ) (m : Meaning) (work : List ℕ) (p : ℕ × ℕ) : Type 0 where
  pub s : ℕ
  pub within : s < rows k + rows k
  pub place : p ≡ parity_place k s
  pub off : Agrees k size m work s → ⊥
  pub before : (t : ℕ) → t < s → Agrees k size m work t

abbrev pub Compared : ℕ → ℕ → Meaning → List ℕ → Option (ℕ × ℕ) → Type 0
Compared k size m work None = (s : ℕ) → s < rows k + rows k → Agrees k size m work s
Compared k size m work (Some p) = FirstOff k size m work p

-- how a sweep carries every run of the shelf on
abbrev pub SweepCarries : Rostered → (m : Meaning) → Sized m → Result (Option (ℕ × ℕ)) Fault → (m' : Meaning) → Sized m' → Type 0
SweepCarries r m sized answer m' sized' = CarriesOn r m sized (told answer sweep) r m' sized'
