-- The bytes of the block to put.
use Rattle.std.specs.Prelude.{ℕ, ◌+◌, ◌*◌, cond, List, length, take, drop, Ok, Err, Result, nat_le}
use Rattle.std.specs.Borrow.{Bor}
use Rattle.tray.specs.declared.fault.Refusal.TheVariants as refusal
use Rattle.tray.specs.declared.fault.Fault.{Fault}
use Rattle.tray.specs.Refusals.{script_fault}
use Rattle.script.specs.Commands.{Origin, given, entry}

-- entry e of a sheet are the bytes at e times the size of a block; it is refused where its last byte lies beyond the sheet
abbrev pub block_in : Origin → List ℕ → ℕ → Result (List ℕ) Fault
block_in (given block) sheet size = Ok block
block_in (entry e) sheet size = cond (nat_le (e * size + size) (length sheet)) (Ok (take size (drop (e * size) sheet))) (Err (script_fault refusal.NoSuchEntry))

-- a lent block, by its bytes
abbrev pub lent_of : Result (Bor (List ℕ)) Fault → Result (List ℕ) Fault
lent_of (Ok block) = Ok block.now
lent_of (Err f) = Err f
