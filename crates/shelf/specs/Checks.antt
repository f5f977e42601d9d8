-- What each call looks at, in this order, and what it answers where it is refused. A fault tells the column and the row
-- that the call named; a silent column is told alone.
use Rattle.std.specs.Prelude.{ℕ, zero, suc, ◌+◌, ◌*◌, Bool, cond, ◌&&◌, ◌||◌, Some, None, Ok, Err, Option, Result, ◌==◌, nat_le, nat_lt}
use Rattle.tray.specs.declared.fault.Refusal.TheVariants as refusal
use Rattle.tray.specs.declared.fault.Fault.{Fault}
use Rattle.tray.specs.Refusals.{shelf_fault, silent_fault}
use Rattle.tray.specs.Meaning.{Meaning}
use Rattle.code.specs.Code.{rows}
use Rattle.shelf.specs.declared.roster.missing.Missing.{Missing}
use Rattle.shelf.specs.declared.roster.missing.Missing.TheVariants.{Nothing}
use Rattle.shelf.specs.Missing.{is_out, is_full, is_empty, removed}
use Rattle.shelf.specs.Rosters.{Rostered, out_of}

-- the tray has the shape of the shelf
abbrev pub is_shaped : Rostered → Meaning → Bool
is_shaped r m = m.columns == r.width + 2 && (m.rows == rows r.width && m.size == r.size)

-- a work space of w bytes holds a block for each row and one for each line
abbrev pub is_roomy : Rostered → ℕ → Bool
is_roomy r w = nat_le (2 * rows r.width * r.size) w

-- of the n columns from c on, the lowest that is neither out nor answers
abbrev pub silent_from : Missing → (ℕ → Bool) → ℕ → ℕ → Option ℕ
silent_from out answers c zero = None
silent_from out answers c (suc n) = cond (is_out out c || answers c) (silent_from out answers (c + 1) n) (Some c)

abbrev pub unless_silent : Option ℕ → Result (Unit {0}) Fault
unless_silent None = Ok tt
unless_silent (Some c) = Err (silent_fault c)

-- every column of the shelf has to answer, but for those in `out`
abbrev pub hearing : Missing → Rostered → Meaning → Result (Unit {0}) Fault
hearing out r m = unless_silent (silent_from out m.answers 0 (r.width + 2))

-- ---- the calls

-- layout on a tray, once width and size are in their limits
abbrev pub laying : Rostered → Meaning → Result (Unit {0}) Fault
laying r m = cond (is_shaped r m) (hearing Nothing r m) (Err (shelf_fault refusal.ShapeDiffers None None))

-- pull, and the start of a drill
abbrev pub pulling : Rostered → ℕ → Result (Unit {0}) Fault
pulling r c =
    cond (nat_lt c (r.width + 2))
    (cond (out_of r c)
    (Err (shelf_fault refusal.AlreadyOut (Some c) None))
    (cond (is_full r.missing) (Err (shelf_fault refusal.TwoOut (Some c) None)) (Ok tt)))
    (Err (shelf_fault refusal.ColumnTooHigh (Some c) None))

-- get and put of the place in row i of data column c, with a block of n bytes and a work space of w bytes
abbrev pub reaching : Rostered → Meaning → ℕ → ℕ → ℕ → ℕ → Result (Unit {0}) Fault
reaching r m c i n w =
    cond (is_shaped r m)
    (cond (nat_lt c r.width)
    (cond (nat_lt i (rows r.width))
    (cond (n == r.size)
    (cond (is_roomy r w) (hearing r.missing r m) (Err (shelf_fault refusal.ShortWork (Some c) (Some i))))
    (Err (shelf_fault refusal.WrongBuffer (Some c) (Some i))))
    (Err (shelf_fault refusal.RowTooHigh (Some c) (Some i))))
    (Err (shelf_fault refusal.ColumnTooHigh (Some c) (Some i))))
    (Err (shelf_fault refusal.ShapeDiffers (Some c) (Some i)))

-- rebuild of column c, which has to answer too
abbrev pub rebuilding : Rostered → Meaning → ℕ → ℕ → Result (Unit {0}) Fault
rebuilding r m c w =
    cond (is_shaped r m)
    (cond (nat_lt c (r.width + 2))
    (cond (is_roomy r w)
    (cond (out_of r c) (hearing (removed r.missing c) r m) (Err (shelf_fault refusal.NotOut (Some c) None)))
    (Err (shelf_fault refusal.ShortWork (Some c) None)))
    (Err (shelf_fault refusal.ColumnTooHigh (Some c) None)))
    (Err (shelf_fault refusal.ShapeDiffers (Some c) None))

-- sweep
abbrev pub sweeping : Rostered → Meaning → ℕ → Result (Unit {0}) Fault
sweeping r m w =
    cond (is_shaped r m)
    (cond (is_roomy r w)
    (cond (is_empty r.missing) (hearing Nothing r m) (Err (shelf_fault refusal.ColumnOut None None)))
    (Err (shelf_fault refusal.ShortWork None None)))
    (Err (shelf_fault refusal.ShapeDiffers None None))

-- ---- answers that hold more than that they are accepted

-- whether a call was accepted, or its refusal
abbrev pub verdict_of : {X : Type 0} → Result X Fault → Result (Unit {0}) Fault
verdict_of (Ok _) = Ok tt
verdict_of (Err f) = Err f
