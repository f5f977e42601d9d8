-- What each call promises, accepted or refused, and that with it the call carries a run on: the calls' contracts cite these.
use Rattle.std.specs.Prelude.{◌≡◌, ℕ, List, [], ◌∷◌, Ok, Err, Option, Result, MatchResult, OnErr}
use Rattle.tray.specs.declared.fault.Fault.{Fault}
use Rattle.tray.specs.Meaning.{Meaning}
use Rattle.code.specs.Code.{Rule}
use Rattle.law.specs.Service.{Columns}
use Rattle.law.specs.Calls.{Laid, Pulled, Got, Put, Rebuilt, Swept}
use Rattle.law.specs.Runs.{Shelf, Call, put, get, pull, rebuild, sweep, Event, accepted, refused, drilled, Start, taken, idle, Inner, answered, turned_away, between, inside, Run}

-- ---- the promises: a refused call changes nothing

abbrev pub Lays : ℕ → ℕ → Meaning → {X : Type 0} → Result X Fault → Meaning → Type 0
Lays k size m answer m' = MatchResult answer (λ _. Laid k size m m') (λ _. m' ≡ m)

abbrev pub Pulls : ℕ → Columns → ℕ → {X : Type 0} → Result X Fault → Columns → Type 0
Pulls k out c answer out' = MatchResult answer (λ _. Pulled k out c out') (λ _. out' ≡ out)

-- `was` is the block buffer before the get, and v after it
abbrev pub Gets : ℕ → Rule → ℕ → Columns → Meaning → ℕ → ℕ → List ℕ → Result (Unit {0}) Fault → List ℕ → Meaning → Type 0
Gets k right size out m j i was answer v m' = MatchResult answer (λ _. Got k right size out m j i v m') (λ _. (m' ≡ m) × (v ≡ was))

abbrev pub Puts : ℕ → Rule → ℕ → Columns → Meaning → ℕ → ℕ → List ℕ → Result (Unit {0}) Fault → Meaning → Type 0
Puts k right size out m j i x answer m' = MatchResult answer (λ _. Put k right size out m j i x m') (λ _. m' ≡ m)

abbrev pub Rebuilds : ℕ → Rule → ℕ → Columns → Meaning → ℕ → Result ℕ Fault → Columns → Meaning → Type 0
Rebuilds k right size out m c answer out' m' = MatchResult answer (λ n. Rebuilt k right size out m c n out' m') (λ _. (m' ≡ m) × (out' ≡ out))

abbrev pub Sweeps : ℕ → Rule → ℕ → Columns → Meaning → Result (Option (ℕ × ℕ)) Fault → Meaning → Type 0
Sweeps k right size out m answer m' = MatchResult answer (λ found. Swept k right size out m found m') (λ _. m' ≡ m)

-- a lent space that an accepted call may fill as it likes, and that a refused one leaves as it was
abbrev pub Spares : {X : Type 0} → List ℕ → Result X Fault → List ℕ → Type 0
Spares was answer work = OnErr answer (work ≡ was)

-- ---- carrying a run on

-- a call, a get inside a drill, and the start of a drill, by what was answered
abbrev pub told : {X : Type 0} → Result X Fault → Call → Event
told (Ok x) call = accepted call
told (Err f) call = refused call

abbrev pub told_inside : {X : Type 0} → Result X Fault → ℕ → ℕ → Inner
told_inside (Ok x) j i = answered j i
told_inside (Err f) j i = turned_away j i

abbrev pub told_start : {X : Type 0} → Result X Fault → ℕ → Start
told_start (Ok x) c = taken c
told_start (Err f) c = idle c

-- a shelf that stands at the end of a run stands after the call at the end of a run with this call more
abbrev pub Carries : ℕ → Rule → ℕ → Shelf → Event → Shelf → Type 0
Carries k right size s e s' = (calls : List Event) → Run k right size calls between s → Run k right size (e ∷ calls) between s'

-- the same inside a drill, whichever it is, for a get made there
abbrev pub CarriesInside : ℕ → Rule → ℕ → Shelf → Inner → Shelf → Type 0
CarriesInside k right size s made s' =
    (calls : List Event) (before : Columns) (start : Start) (inner : List Inner)
    → Run k right size calls (inside before start inner) s → Run k right size calls (inside before start (made ∷ inner)) s'

-- the start of a drill carries a run into it, and its end, whatever gets were made, out of it: s is the shelf before the drill, on any tray
abbrev pub CarriesIn : ℕ → Rule → ℕ → Shelf → Start → Shelf → Type 0
CarriesIn k right size s start s' = (calls : List Event) → Run k right size calls between s → Run k right size calls (inside s.out start []) s'

abbrev pub CarriesOut : ℕ → Rule → ℕ → Columns → Start → Shelf → Shelf → Type 0
CarriesOut k right size before start s s' =
    (calls : List Event) (inner : List Inner) → Run k right size calls (inside before start inner) s → Run k right size (drilled start inner ∷ calls) between s'

-- Calls that keep their promises carry every run on.
pub record KeptCarries (k : ℕ) (right : Rule) (size : ℕ) (s s' : Shelf) : Type 0 where
  pub a_put : (j i : ℕ) (x : List ℕ) (answer : Result (Unit {0}) Fault)
      → Puts k right size s.out s.tray j i x answer s'.tray → s'.out ≡ s.out → Carries k right size s (told answer (put j i x)) s'
  pub a_get : (j i : ℕ) (was v : List ℕ) (answer : Result (Unit {0}) Fault)
      → Gets k right size s.out s.tray j i was answer v s'.tray → s'.out ≡ s.out → Carries k right size s (told answer (get j i)) s'
  pub a_pull : (c : ℕ) (answer : Result (Unit {0}) Fault)
      → Pulls k s.out c answer s'.out → s'.tray ≡ s.tray → Carries k right size s (told answer (pull c)) s'
  pub a_rebuild : (c : ℕ) (answer : Result ℕ Fault)
      → Rebuilds k right size s.out s.tray c answer s'.out s'.tray → Carries k right size s (told answer (rebuild c)) s'
  pub a_sweep : (answer : Result (Option (ℕ × ℕ)) Fault)
      → Sweeps k right size s.out s.tray answer s'.tray → s'.out ≡ s.out → Carries k right size s (told answer sweep) s'
  pub an_inner_get : (j i : ℕ) (was v : List ℕ) (answer : Result (Unit {0}) Fault)
      → Gets k right size s.out s.tray j i was answer v s'.tray → s'.out ≡ s.out → CarriesInside k right size s (told_inside answer j i) s'
  pub a_start : (c : ℕ) (answer : Result (Unit {0}) Fault)
      → Pulls k s.out c answer s'.out → s'.tray ≡ s.tray → CarriesIn k right size s (told_start answer c) s'
  pub an_end : (before : Columns) (start : Start) → s'.tray ≡ s.tray → s'.out ≡ before → CarriesOut k right size before start s s'

abbrev pub CallsGoOn : Type 0
CallsGoOn = (k : ℕ) (right : Rule) (size : ℕ) (s s' : Shelf) → KeptCarries k right size s s'
