-- What one command of a script does, and the line that tells of it.
use Rattle.std.specs.Prelude.{◌≡◌, ℕ, ◌+◌, cond, List, [], ◌∷◌, length, Ok, Err, Result, MatchResult, nat_le}
use Rattle.std.specs.Borrow.{Bor}
use Rattle.tray.specs.declared.fault.Refusal.TheVariants as refusal
use Rattle.tray.specs.declared.fault.Fault.{Fault}
use Rattle.tray.specs.Refusals.{script_fault}
use Rattle.tray.specs.Meaning.{Meaning}
use Rattle.tray.specs.FlatTrays.{new_flat}
use Rattle.code.specs.Code.{rows}
use Rattle.law.specs.Calls.{Laid}
use Rattle.shelf.specs.Rosters.{full_roster}
use Rattle.shelf.specs.Checks.{verdict_of}
use Rattle.shelf.specs.Layouts.{laying_out}
use Rattle.script.specs.Reading.{Read, reading, Planned, reading_first}
use Rattle.lab.specs.declared.answer.Answer.{Answer}
use Rattle.lab.specs.declared.answer.Answer.TheVariants.{Done}
use Rattle.lab.specs.Labs.{Held, Standing, bare, laid}
use Rattle.lab.specs.Lines.{line_text, onto}
use Rattle.lab.specs.Obeying.{Obeyed}

-- a line buffer of n bytes
abbrev pub line_checked : ℕ → Result (Unit {0}) Fault
line_checked n = cond (nat_le 1040 n) (Ok tt) (Err (script_fault refusal.ShortLine))

-- a line of n bytes at the front of the line buffer
pub record Told (letter : ℕ) (told : Result Answer Fault) (line : List ℕ) (n : ℕ) (line' : List ℕ) : Type 0 where
  pub many : n ≡ length (line_text letter told)
  pub text : line' ≡ onto (line_text letter told) line

-- ---- the first command

-- a new flat tray for a shelf of width k and blocks of this size, over a memory
abbrev pub tray_for : ℕ → ℕ → List ℕ → Meaning
tray_for k size cells = new_flat (k + 2) (rows k) size cells

-- what a layout on the memory answers, and leaves: zeros everywhere, or nothing changed
pub record LaysOut (cells : List ℕ) (k size : ℕ) (answer : Result (Unit {0}) Fault) (s' : Standing) : Type 0 where
  pub value : answer ≡ verdict_of (laying_out k size (tray_for k size cells))
  pub done : MatchResult answer (λ _. (m : Meaning) × Laid k size (tray_for k size cells) m × (s' ≡ laid (record { roster = full_roster k size; tray = m }))) (λ _. s' ≡ bare cells)

-- where the command is accepted the script goes on behind it, and where it is refused the script ends
abbrev pub goes_on : {X : Type 0} → Result X Fault → List ℕ → List ℕ
goes_on (Ok _) next = next
goes_on (Err _) next = []

-- an accepted layout is just told
abbrev pub done : {X : Type 0} → Result X Fault → Result Answer Fault
done (Ok _) = Ok Done
done (Err f) = Err f

-- the script behind an accepted layout, which is none where it was refused
abbrev pub behind : Result (Bor (List ℕ)) Fault → List ℕ
behind (Ok rest) = rest.now
behind (Err f) = []

pub record Opens (cells : List ℕ) (k size : ℕ) (next : List ℕ) (answer : Result Answer Fault) (rest : List ℕ) (s' : Standing) : Type 0 where
  pub laying : Result (Unit {0}) Fault
  pub lays : LaysOut cells k size laying s'
  pub told : answer ≡ done laying
  pub on : rest ≡ goes_on laying next

abbrev pub Begun : List ℕ → Planned → Result Answer Fault → List ℕ → Standing → Type 0
Begun cells (Ok plan) answer rest s' = Opens cells plan.0.0 plan.0.1 plan.1 answer rest s'
Begun cells (Err f) answer rest s' = (answer ≡ Err f) × (rest ≡ []) × (s' ≡ bare cells)

-- ---- the commands after it

-- a command that was read is obeyed, and the script goes on behind it; one that cannot be read changes nothing, and the
-- script ends
abbrev pub Turned : List ℕ → Held → Read → List ℕ → Result Answer Fault → List ℕ → List ℕ → Held → Type 0
Turned sheet s (Ok next) work told rest work' s' = Obeyed sheet s next.0 work told work' s' × (rest ≡ next.1)
Turned sheet s (Err f) work told rest work' s' = (told ≡ Err f) × (rest ≡ []) × (work' ≡ work) × (s' ≡ s)

-- ---- any command

-- nothing is left of a script: there is no line, and nothing changes
pub record Idle (work line : List ℕ) (s : Standing) (n : ℕ) (rest work' line' : List ℕ) (s' : Standing) : Type 0 where
  pub none : n ≡ 0
  pub over : rest ≡ []
  pub same : s' ≡ s
  pub same_work : work' ≡ work
  pub same_line : line' ≡ line

-- the command that stands behind a letter
abbrev pub Turns : List ℕ → Standing → ℕ → List ℕ → List ℕ → Result Answer Fault → List ℕ → List ℕ → Standing → Type 0
Turns sheet (bare cells) letter operands work told rest work' s' = Begun cells (reading_first letter operands) told rest s' × (work' ≡ work)
Turns sheet (laid s) letter operands work told rest work' s' =
    (after : Held) × (s' ≡ laid after) × Turned sheet s (reading letter operands s.roster.size) work told rest work' after

pub record Ran (sheet : List ℕ) (s : Standing) (letter : ℕ) (operands work line : List ℕ) (n : ℕ) (rest work' line' : List ℕ) (s' : Standing) : Type 0 where
  pub answer : Result Answer Fault
  pub turns : Turns sheet s letter operands work answer rest work' s'
  pub told : Told letter answer line n line'

abbrev pub Runs : List ℕ → Standing → List ℕ → List ℕ → List ℕ → ℕ → List ℕ → List ℕ → List ℕ → Standing → Type 0
Runs sheet s [] work line n rest work' line' s' = Idle work line s n rest work' line' s'
Runs sheet s (letter ∷ operands) work line n rest work' line' s' = Ran sheet s letter operands work line n rest work' line' s'
