-- Refusals by their numbers, and faults by the layer that tells them.
use Rattle.std.specs.Prelude.{ℕ, Some, None, Option}
use Rattle.tray.specs.declared.fault.Refusal.{Refusal}
use Rattle.tray.specs.declared.fault.Refusal.TheVariants as refusal
use Rattle.tray.specs.declared.fault.Layer.TheVariants as layer
use Rattle.tray.specs.declared.fault.Fault.{Fault}

-- Each refusal's number: 1 to 9 are about what was sent, 11 to 17 about how things stand.
abbrev pub number_of : Refusal → ℕ
number_of refusal.ColumnTooHigh = 1
number_of refusal.RowTooHigh = 2
number_of refusal.WrongBuffer = 3
number_of refusal.ShortWork = 4
number_of refusal.OutsideLimits = 5
number_of refusal.UnknownCommand = 6
number_of refusal.ScriptEnds = 7
number_of refusal.NoSuchEntry = 8
number_of refusal.ShortLine = 9
number_of refusal.ShapeDiffers = 11
number_of refusal.AlreadyOut = 12
number_of refusal.NotOut = 13
number_of refusal.TwoOut = 14
number_of refusal.Silent = 15
number_of refusal.ColumnOut = 16
number_of refusal.OutOfOrder = 17

-- A fault of a tray's own, with the column and row that the call named.
abbrev pub tray_fault : Refusal → Option ℕ → Option ℕ → Fault
tray_fault what column row = record { refusal = what; layer = layer.Tray; column = column; row = row }

-- A fault of a shelf's own.
abbrev pub shelf_fault : Refusal → Option ℕ → Option ℕ → Fault
shelf_fault what column row = record { refusal = what; layer = layer.Shelf; column = column; row = row }

-- A fault of a script's own names neither column nor row.
abbrev pub script_fault : Refusal → Fault
script_fault what = record { refusal = what; layer = layer.Script; column = None; row = None }

-- A silent column is the tray's fault, and is told alone.
abbrev pub silent_fault : ℕ → Fault
silent_fault column = tray_fault refusal.Silent (Some column) None

-- The same fault, told of another column.
abbrev pub fault_at : Fault → ℕ → Fault
fault_at f column = record { refusal = f.refusal; layer = f.layer; column = Some column; row = f.row }
