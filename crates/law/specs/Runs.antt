-- Runs of a shelf: its calls, accepted or refused, and what may change between them; and the history that the calls tell.
use Rattle.std.specs.Prelude.{◌≡◌, ℕ, ◌+◌, ◌<◌, false, cond, ◌&&◌, List, [], ◌∷◌, replicate, Option, ◌==◌}
use Rattle.tray.specs.Meaning.{Meaning, Sized}
use Rattle.code.specs.Code.{Rule, rows}
use Rattle.law.specs.Service.{Columns, no_columns, added, removed}
use Rattle.law.specs.Holding.{Data, SameShape}
use Rattle.law.specs.Calls.{Laid, Pulled, Got, Put, Rebuilt, Swept}

-- a shelf: the columns that its roster has out of service, and what its tray means, whatever its make
pub record Shelf : Type 0 where
  pub out : Columns
  pub tray : Meaning
  pub sized : Sized tray

-- ---- calls by their arguments, and which were accepted

pub data Call : Type 0 where
  put : (column row : ℕ) (block : List ℕ) → Call
  get : (column row : ℕ) → Call
  pull : (column : ℕ) → Call
  rebuild : (column : ℕ) → Call
  sweep : Call

-- a drill takes its column out, or is refused and idle
pub data Start : Type 0 where
  taken : (column : ℕ) → Start
  idle : (column : ℕ) → Start

-- a get inside a drill
pub data Inner : Type 0 where
  answered : (column row : ℕ) → Inner
  turned_away : (column row : ℕ) → Inner

pub data Event : Type 0 where
  accepted : Call → Event
  refused : Call → Event
  -- a drill with its gets is one call; here as everywhere the latest stands first
  drilled : Start → List Inner → Event

-- ---- the history

-- an accepted put sets its place
abbrev pub putting : Event → Data → Data
putting (accepted (put c r x)) D i j = cond (i == r && j == c) x (D i j)
putting (accepted (get c r)) D i j = D i j
putting (accepted (pull c)) D i j = D i j
putting (accepted (rebuild c)) D i j = D i j
putting (accepted sweep) D i j = D i j
putting (refused call) D i j = D i j
putting (drilled start inner) D i j = D i j

-- the block of the last accepted put to each data place, at first zeros
unfoldable pub last_put : ℕ → List Event → Data
last_put size [] i j = replicate size 0
last_put size (e ∷ calls) i j = putting e (last_put size calls) i j

-- an accepted pull adds its column, an accepted rebuild removes it
abbrev pub losing : Event → Columns → Columns
losing (accepted (put c r x)) gone = gone
losing (accepted (get c r)) gone = gone
losing (accepted (pull c)) gone = added gone c
losing (accepted (rebuild c)) gone = removed gone c
losing (accepted sweep) gone = gone
losing (refused call) gone = gone
losing (drilled start inner) gone = gone

-- the columns missing, at first none
unfoldable pub missing : List Event → Columns
missing [] = no_columns
missing (e ∷ calls) = losing e (missing calls)

-- ---- runs

-- between calls only flags, tallies and blocks of missing columns may change
pub record Between (k : ℕ) (gone : Columns) (m m' : Meaning) : Type 0 where
  pub shape : SameShape m m'
  pub kept : (c r : ℕ) → c < k + 2 → r < rows k → gone c ≡ false → m'.block c r ≡ m.block c r

-- one call; a refused one changes nothing
pub data Step (k : ℕ) (right : Rule) (size : ℕ) (s s' : Shelf) : Event → Type 0 where
  puts : {j i : ℕ} {x : List ℕ} → Put k right size s.out s.tray j i x s'.tray → s'.out ≡ s.out → Step k right size s s' (accepted (put j i x))
  gets : {j i : ℕ} (v : List ℕ) → Got k right size s.out s.tray j i v s'.tray → s'.out ≡ s.out → Step k right size s s' (accepted (get j i))
  pulls : {c : ℕ} → Pulled k s.out c s'.out → s'.tray ≡ s.tray → Step k right size s s' (accepted (pull c))
  rebuilds : {c : ℕ} (answer : ℕ) → Rebuilt k right size s.out s.tray c answer s'.out s'.tray → Step k right size s s' (accepted (rebuild c))
  sweeps : (found : Option (ℕ × ℕ)) → Swept k right size s.out s.tray found s'.tray → s'.out ≡ s.out → Step k right size s s' (accepted sweep)
  refuses : {call : Call} → s'.tray ≡ s.tray → s'.out ≡ s.out → Step k right size s s' (refused call)

-- the columns out as a drill starts: one more, or as before
abbrev pub Starts : ℕ → Columns → Start → Columns → Type 0
Starts k out (taken c) out' = Pulled k out c out'
Starts k out (idle c) out' = out' ≡ out

-- where a run stands: between calls, or inside a drill, with the columns out before it and the gets made so far
pub data Point : Type 0 where
  between : Point
  inside : (before : Columns) → Start → List Inner → Point

-- a run starts with an accepted layout, and goes on by calls, by drills, and by changes at any point
pub data Run (k : ℕ) (right : Rule) (size : ℕ) : List Event → Point → Shelf → Type 0 where
  begins : {s : Shelf} (m : Meaning) → Laid k size m s.tray → ((c : ℕ) → s.out c ≡ false) → Run k right size [] between s
  changes : {calls : List Event} {at : Point} {s s' : Shelf} → Run k right size calls at s
      → Between k (missing calls) s.tray s'.tray → s'.out ≡ s.out → Run k right size calls at s'
  calls : {calls : List Event} {e : Event} {s s' : Shelf} → Run k right size calls between s → Step k right size s s' e → Run k right size (e ∷ calls) between s'
  -- a drill starts, gets are made inside it, and at its end the roster is as before
  starts : {calls : List Event} {start : Start} {s s' : Shelf} → Run k right size calls between s
      → Starts k s.out start s'.out → s'.tray ≡ s.tray → Run k right size calls (inside s.out start []) s'
  gets : {calls : List Event} {before : Columns} {start : Start} {inner : List Inner} {s s' : Shelf} {j i : ℕ} → Run k right size calls (inside before start inner) s
      → (v : List ℕ) → Got k right size s.out s.tray j i v s'.tray → s'.out ≡ s.out → Run k right size calls (inside before start (answered j i ∷ inner)) s'
  refuses : {calls : List Event} {before : Columns} {start : Start} {inner : List Inner} {s s' : Shelf} {j i : ℕ} → Run k right size calls (inside before start inner) s
      → s'.tray ≡ s.tray → s'.out ≡ s.out → Run k right size calls (inside before start (turned_away j i ∷ inner)) s'
  ends : {calls : List Event} {before : Columns} {start : Start} {inner : List Inner} {s s' : Shelf} → Run k right size calls (inside before start inner) s
      → s'.tray ≡ s.tray → s'.out ≡ before → Run k right size (drilled start inner ∷ calls) between s'
