-- One get inside a drill: a call of its own. A refused drill is told, and no get is made.
use Rattle.std.specs.Prelude.{◌≡◌, ℕ, List, [], ◌∷◌, Ok, Err, Result, MatchResult}
use Rattle.tray.specs.declared.fault.Fault.{Fault}
use Rattle.tray.specs.Meaning.{Meaning}
use Rattle.law.specs.Runs.{Event, drilled, Inner}
use Rattle.law.specs.Promises.{told_start, told_inside}
use Rattle.shelf.specs.Rosters.{Rostered, taken_out}
use Rattle.shelf.specs.Checks.{pulling, reaching}
use Rattle.shelf.specs.Promises.{GetsOn}

-- the drill's refusal, or else what the get answers
abbrev pub if_started : Result (Unit {0}) Fault → Result (Unit {0}) Fault → Result (Unit {0}) Fault
if_started (Ok _) answer = answer
if_started (Err f) answer = Err f

-- with column d out: the place in row i of data column c, a block of n bytes and a work space of w bytes
abbrev pub rehearsing : Rostered → Meaning → ℕ → ℕ → ℕ → ℕ → ℕ → Result (Unit {0}) Fault
rehearsing r m d c i n w = if_started (pulling r d) (reaching (taken_out r d) m c i n w)

-- the get on the roster without column d; a refused drill changes nothing
abbrev pub RehearsesOn : Rostered → Meaning → ℕ → ℕ → ℕ → List ℕ → Result (Unit {0}) Fault → List ℕ → Meaning → Type 0
RehearsesOn r m d c i was answer v m' = MatchResult (pulling r d) (λ _. GetsOn (taken_out r d) m c i was answer v m') (λ _. (m' ≡ m) × (v ≡ was))

-- the gets made inside: one, or none
abbrev pub gets_made : Result (Unit {0}) Fault → Result (Unit {0}) Fault → ℕ → ℕ → List Inner
gets_made (Ok _) answer c i = told_inside answer c i ∷ []
gets_made (Err f) answer c i = []

-- the call by what was answered
abbrev pub rehearsed : Rostered → ℕ → ℕ → ℕ → Result (Unit {0}) Fault → Event
rehearsed r d c i answer = drilled (told_start (pulling r d) d) (gets_made (pulling r d) answer c i)
