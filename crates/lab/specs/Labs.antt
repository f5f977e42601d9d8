-- What a lab holds.
use Rattle.std.specs.Prelude.{ℕ, List, Some, None, Option}
use Rattle.tray.specs.declared.flat.Flat.{Flat}
use Rattle.tray.specs.Meaning.{Meaning}
use Rattle.tray.specs.FlatTrays.{flat_of}
use Rattle.shelf.specs.declared.roster.Roster.{Roster}
use Rattle.shelf.specs.Rosters.{Rostered, roster_of}
use Rattle.lab.specs.declared.shelf_lab.Lab.{Lab}

-- a shelf: a roster, and the tray that it was laid out on
pub record Held : Type 0 where
  pub roster : Rostered
  pub tray : Meaning

abbrev pub held : Roster → Flat → Held
held roster tray = record { roster = roster_of roster; tray = flat_of tray }

-- a memory on which no shelf is laid out yet, or a shelf
pub data Standing : Type 0 where
  bare : (cells : List ℕ) → Standing
  laid : Held → Standing

abbrev pub standing_on : Option Roster → Flat → Standing
standing_on None tray = bare tray.cells.now
standing_on (Some roster) tray = laid (held roster tray)

abbrev pub standing : Lab → Standing
standing lab = standing_on lab.roster lab.tray
