-- The law of scripts: what a script shows is what it put, whatever its commands were.
use Rattle.std.specs.Prelude.{◌≡◌, ℕ, Bool, true, cond, ◌&&◌, List, [], ◌∷◌, replicate, is_ok, None, Ok, Err, Result, ◌==◌}
use Rattle.tray.specs.declared.fault.Fault.{Fault}
use Rattle.tray.specs.Meaning.{Meaning, Sized}
use Rattle.code.specs.Widths.{is_width}
use Rattle.law.specs.Holding.{Data}
use Rattle.law.specs.Calls.{Laid}
use Rattle.shelf.specs.Rosters.{full_roster}
use Rattle.script.specs.Commands.{Operation, layout, pull, rebuild, sweep, get, put, drill, switch, fill}
use Rattle.script.specs.Blocks.{block_in}
use Rattle.lab.specs.declared.answer.Answer.{Answer}
use Rattle.lab.specs.declared.answer.Answer.TheVariants.{Found}
use Rattle.lab.specs.Labs.{Held}
use Rattle.lab.specs.Obeying.{Shows, Obeyed}

-- the commands of a script behind its layout, and whether each was accepted; the latest stands first
abbrev pub Past : Type 0
Past = List (Operation × Bool)

-- the bytes that a P or a Q puts
abbrev pub bytes_or : Result (List ℕ) Fault → List ℕ
bytes_or (Ok bytes) = bytes
bytes_or (Err f) = []

-- an accepted P or Q sets its place, and an accepted F its column
abbrev pub setting : List ℕ → ℕ → Operation → Data → Data
setting sheet size (layout k n) D i j = D i j
setting sheet size (pull c) D i j = D i j
setting sheet size (rebuild c) D i j = D i j
setting sheet size sweep D i j = D i j
setting sheet size (get c r) D i j = D i j
setting sheet size (put c r x) D i j = cond (i == r && j == c) (bytes_or (block_in x sheet size)) (D i j)
setting sheet size (drill d c r) D i j = D i j
setting sheet size (switch c flag) D i j = D i j
setting sheet size (fill c byte) D i j = cond (j == c) (replicate size byte) (D i j)

-- the block last put to each data place by an accepted command, at first zeros
abbrev pub last_set : List ℕ → ℕ → Past → Data
last_set sheet size [] i j = replicate size 0
last_set sheet size (x ∷ past) i j = cond x.1 (setting sheet size x.0 (last_set sheet size past) i j) (last_set sheet size past i j)

-- a shelf that was laid out, and on which these commands were obeyed
pub data Course (sheet : List ℕ) (k size : ℕ) : Past → Held → Type 0 where
  opened : {m m' : Meaning} → Laid k size m m' → Sized m' → Course sheet k size [] (record { roster = full_roster k size; tray = m' })
  obeyed : {past : Past} {s s' : Held} {x : Operation} {work work' : List ℕ} {told : Result Answer Fault}
      → Course sheet k size past s → Obeyed sheet s x work told work' s' → Sized s'.tray → Course sheet k size ((x, is_ok told) ∷ past) s'

pub record Truthful (sheet : List ℕ) (k size : ℕ) (past : Past) (s : Held) : Type 0 where
  -- every accepted G shows the block last put to its place,
  pub gets : (c i : ℕ) (work work' : List ℕ) (answer : Answer) (s' : Held) → Obeyed sheet s (get c i) work (Ok answer) work' s' → Shows answer (λ block. block ≡ last_set sheet size past i c)
  -- and so does every accepted D;
  pub drills : (d c i : ℕ) (work work' : List ℕ) (answer : Answer) (s' : Held) → Obeyed sheet s (drill d c i) work (Ok answer) work' s' → Shows answer (λ block. block ≡ last_set sheet size past i c)
  -- every accepted S says clean.
  pub sweeps : (work work' : List ℕ) (answer : Answer) (s' : Held) → Obeyed sheet s sweep work (Ok answer) work' s' → answer ≡ Found None

abbrev pub LawOfScripts : Type 0
LawOfScripts = (sheet : List ℕ) (k size : ℕ) (past : Past) (s : Held) → is_width k ≡ true → Course sheet k size past s → Truthful sheet k size past s
