-- A roster by its parts, and the shelf that it is with a tray.
use Rattle.std.specs.Prelude.{ℕ}
use Rattle.tray.specs.Meaning.{Meaning, Sized}
use Rattle.law.specs.Service.{Columns}
use Rattle.law.specs.Runs.{Shelf}
use Rattle.shelf.specs.declared.roster.Roster.{Roster}
use Rattle.shelf.specs.declared.roster.missing.Missing.{Missing}
use Rattle.shelf.specs.declared.roster.missing.Missing.TheVariants.{Nothing}
use Rattle.shelf.specs.Missing.{is_out, added, removed}

-- what a roster holds
pub record Rostered : Type 0 where
  pub width : ℕ
  pub size : ℕ
  pub missing : Missing

abbrev pub roster_of : Roster → Rostered
roster_of r = record { width = r.width.number; size = r.size; missing = r.missing }

-- a new roster: no column is out
abbrev pub full_roster : ℕ → ℕ → Rostered
full_roster width size = record { width = width; size = size; missing = Nothing }

-- the roster with column c taken out, and with it back in service
abbrev pub taken_out : Rostered → ℕ → Rostered
taken_out r c = record { width = r.width; size = r.size; missing = added r.missing c }

abbrev pub back_in : Rostered → ℕ → Rostered
back_in r c = record { width = r.width; size = r.size; missing = removed r.missing c }

-- the columns out of service
abbrev pub out_of : Rostered → Columns
out_of r = is_out r.missing

-- the shelf that a roster is with a tray
abbrev pub shelf_on : Rostered → (m : Meaning) → Sized m → Shelf
shelf_on r m sized = record { out = out_of r; tray = m; sized = sized }
