-- The lines of a whole script.
use Rattle.std.specs.Prelude.{◌≡◌, ℕ, List, [], ◌∷◌, ◌++◌, length, take}
use Rattle.lab.specs.Labs.{Standing}
use Rattle.lab.specs.Running.{Runs}

-- the command that a script goes on with tells this text, and leaves this rest and the lab at s'; w is the length of the
-- work space
pub record Tells (w : ℕ) (sheet : List ℕ) (s : Standing) (script text rest : List ℕ) (s' : Standing) : Type 0 where
  pub work : List ℕ
  pub work' : List ℕ
  pub buffer : List ℕ
  pub buffer' : List ℕ
  pub many : ℕ
  pub wide : length work ≡ w
  pub runs : Runs sheet s script work buffer many rest work' buffer' s'
  pub shown : text ≡ take many buffer'

-- the lines of a script that goes on in a lab: those of its commands one after the other, until nothing is left
pub data Transcript (w : ℕ) (sheet : List ℕ) : Standing → List ℕ → List ℕ → Type 0 where
  over : {s : Standing} → Transcript w sheet s [] []
  line : {s s' : Standing} {letter : ℕ} {operands text rest lines : List ℕ}
      → Tells w sheet s (letter ∷ operands) text rest s' → Transcript w sheet s' rest lines → Transcript w sheet s (letter ∷ operands) (text ++ lines)
