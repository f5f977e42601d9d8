-- How commands are read: a letter, and its operands behind it.
use Rattle.std.specs.Prelude.{ℕ, ◌+◌, cond, List, [], ◌∷◌, length, take, drop, Some, None, Ok, Err, Option, Result, ◌==◌, nat_le, slice_index}
use Rattle.std.specs.Borrow.{Bor}
use Rattle.tray.specs.declared.fault.Refusal.TheVariants as refusal
use Rattle.tray.specs.declared.fault.Fault.{Fault}
use Rattle.tray.specs.Refusals.{script_fault}
use Rattle.script.specs.declared.command.Plan.{Plan}
use Rattle.script.specs.declared.command.Command.{Command}
use Rattle.script.specs.Letters.{is_letter}
use Rattle.script.specs.Commands.{plan_of, operation_of, Operation, layout, pull, rebuild, sweep, get, put, drill, switch, fill, given, entry, word}

-- the operand byte at i, and the number in the two bytes from i on
abbrev pub byte_at : List ℕ → ℕ → ℕ
byte_at operands i = slice_index operands i

abbrev pub word_at : List ℕ → ℕ → ℕ
word_at operands i = word (byte_at operands i) (byte_at operands (i + 1))

-- an operation with n operand bytes, and the script behind them
abbrev pub Read : Type 0
Read = Result (Operation × List ℕ) Fault

abbrev pub within : ℕ → List ℕ → Operation → Read
within n operands x = cond (nat_le n (length operands)) (Ok (x, drop n operands)) (Err (script_fault refusal.ScriptEnds))

-- x where the letter is c
abbrev pub at : ℕ → ℕ → Read → Read → Read
at letter c x otherwise = cond (letter == c) x otherwise

-- L X R S G P Q D U F
abbrev pub reading : ℕ → List ℕ → ℕ → Read
reading letter o size =
    at letter 76 (within 3 o (layout (byte_at o 0) (word_at o 1)))
    (at letter 88 (within 1 o (pull (byte_at o 0)))
    (at letter 82 (within 1 o (rebuild (byte_at o 0)))
    (at letter 83 (within 0 o sweep)
    (at letter 71 (within 3 o (get (byte_at o 0) (word_at o 1)))
    (at letter 80 (within (3 + size) o (put (byte_at o 0) (word_at o 1) (given (take size (drop 3 o)))))
    (at letter 81 (within 4 o (put (byte_at o 0) (word_at o 1) (entry (byte_at o 3))))
    (at letter 68 (within 4 o (drill (byte_at o 0) (byte_at o 1) (word_at o 2)))
    (at letter 85 (within 2 o (switch (byte_at o 0) (byte_at o 1)))
    (at letter 70 (within 2 o (fill (byte_at o 0) (byte_at o 1)))
    (Err (script_fault refusal.UnknownCommand)))))))))))

-- what was read, by its parts
abbrev pub read_of : Result (Command × Bor (List ℕ)) Fault → Read
read_of (Ok x) = Ok (operation_of x.0, x.1.now)
read_of (Err f) = Err f

-- the letter that a script goes on with, and the script behind it
abbrev pub lettered : List ℕ → Option (ℕ × List ℕ)
lettered [] = None
lettered (c ∷ rest) = Some (c, rest)

abbrev pub letter_of : Option (ℕ × Bor (List ℕ)) → Option (ℕ × List ℕ)
letter_of None = None
letter_of (Some x) = Some (x.0, x.1.now)

-- the first command has to be L, whose plan is a width and a size
abbrev pub Planned : Type 0
Planned = Result ((ℕ × ℕ) × List ℕ) Fault

abbrev pub reading_first : ℕ → List ℕ → Planned
reading_first letter o =
    cond (is_letter letter)
    (cond (letter == 76)
    (cond (nat_le 3 (length o)) (Ok ((byte_at o 0, word_at o 1), drop 3 o)) (Err (script_fault refusal.ScriptEnds)))
    (Err (script_fault refusal.OutOfOrder)))
    (Err (script_fault refusal.UnknownCommand))

abbrev pub first_of : Result (Plan × Bor (List ℕ)) Fault → Planned
first_of (Ok x) = Ok (plan_of x.0, x.1.now)
first_of (Err f) = Err f
