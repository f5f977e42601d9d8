-- What each command answers, and what it leaves.
use Rattle.std.specs.Prelude.{◌≡◌, ℕ, ◌+◌, not, List, length, replicate, IfErr, Ok, Err, Option, Result, MatchResult, ◌==◌}
use Rattle.tray.specs.declared.fault.Refusal.TheVariants as refusal
use Rattle.tray.specs.declared.fault.Fault.{Fault}
use Rattle.tray.specs.Refusals.{script_fault}
use Rattle.tray.specs.Meaning.{Meaning, Sized, asked, switched}
use Rattle.code.specs.Code.{rows}
use Rattle.code.specs.Neighbours.{published}
use Rattle.law.specs.Calls.{Got, Put, Rebuilt, Swept}
use Rattle.shelf.specs.Rosters.{Rostered, taken_out, back_in, out_of}
use Rattle.shelf.specs.Checks.{pulling, reaching, rebuilding, sweeping, verdict_of}
use Rattle.shelf.specs.Rehearsals.{rehearsing}
use Rattle.shelf.specs.Rebuilding.{reads_of}
use Rattle.script.specs.Commands.{Operation, layout, pull, rebuild, sweep, get, put, drill, switch, fill}
use Rattle.script.specs.Blocks.{block_in}
use Rattle.lab.specs.declared.answer.Answer.{Answer}
use Rattle.lab.specs.declared.answer.Answer.TheVariants.{Done, Block, Count, Found}
use Rattle.lab.specs.Labs.{Held}

-- ---- what a command answers where it is refused; w is the length of the work space

abbrev pub if_found : {X : Type 0} → Result X Fault → (X → Result (Unit {0}) Fault) → Result (Unit {0}) Fault
if_found (Ok x) f = f x
if_found (Err e) f = Err e

abbrev pub judging : List ℕ → Held → Operation → ℕ → Result (Unit {0}) Fault
judging sheet s (layout k size) w = Err (script_fault refusal.OutOfOrder)
judging sheet s (pull c) w = pulling s.roster c
judging sheet s (rebuild c) w = rebuilding s.roster s.tray c w
judging sheet s sweep w = sweeping s.roster s.tray w
judging sheet s (get c i) w = reaching s.roster s.tray c i s.roster.size w
judging sheet s (put c i x) w = if_found (block_in x sheet s.roster.size) (λ block. reaching s.roster s.tray c i (length block) w)
judging sheet s (drill d c i) w = rehearsing s.roster s.tray d c i s.roster.size w
judging sheet s (switch c flag) w = asked s.tray c tt
judging sheet s (fill c byte) w = reaching s.roster s.tray c 0 s.roster.size w

-- ---- what an accepted command does

abbrev pub GotOn : Rostered → Meaning → ℕ → ℕ → List ℕ → Meaning → Type 0
GotOn r m c i v m' = Got r.width (published r.width) r.size (out_of r) m c i v m'

abbrev pub PutOn : Rostered → Meaning → ℕ → ℕ → List ℕ → Meaning → Type 0
PutOn r m c i x m' = Put r.width (published r.width) r.size (out_of r) m c i x m'

-- a block put in the first n rows of a column, one after the other
pub data Filled (r : Rostered) (c : ℕ) (x : List ℕ) (m : Meaning) : ℕ → Meaning → Type 0 where
  none : Filled r c x m 0 m
  more : {n : ℕ} {m₁ m₂ : Meaning} → Filled r c x m n m₁ → PutOn r m₁ c n x m₂ → Sized m₂ → Filled r c x m (n + 1) m₂

-- the answer is a block, of which P holds
abbrev pub Shows : Answer → (List ℕ → Type 0) → Type 0
Shows Done P = ⊥
Shows (Block block) P = P block.now
Shows (Count n) P = ⊥
Shows (Found place) P = ⊥

-- s is what the lab held before, and s' after
abbrev pub Does : List ℕ → Held → Operation → Answer → Held → Type 0
Does sheet s (layout k size) answer s' = ⊥
Does sheet s (pull c) answer s' = (answer ≡ Done) × (s'.roster ≡ taken_out s.roster c) × (s'.tray ≡ s.tray)
Does sheet s (rebuild c) answer s' =
    (answer ≡ Count (reads_of s.roster.width s.roster.missing)) × (s'.roster ≡ back_in s.roster c)
    × Rebuilt s.roster.width (published s.roster.width) s.roster.size (out_of s.roster) s.tray c (reads_of s.roster.width s.roster.missing) (out_of s'.roster) s'.tray
Does sheet s sweep answer s' =
    (found : Option (ℕ × ℕ)) × (answer ≡ Found found) × (s'.roster ≡ s.roster)
    × Swept s.roster.width (published s.roster.width) s.roster.size (out_of s.roster) s.tray found s'.tray
Does sheet s (get c i) answer s' = (s'.roster ≡ s.roster) × Shows answer (λ block. GotOn s.roster s.tray c i block s'.tray)
Does sheet s (put c i x) answer s' =
    (answer ≡ Done) × (s'.roster ≡ s.roster)
    × ((bytes : List ℕ) × (block_in x sheet s.roster.size ≡ Ok bytes) × PutOn s.roster s.tray c i bytes s'.tray)
Does sheet s (drill d c i) answer s' = (s'.roster ≡ s.roster) × Shows answer (λ block. GotOn (taken_out s.roster d) s.tray c i block s'.tray)
Does sheet s (switch c flag) answer s' = (answer ≡ Done) × (s'.roster ≡ s.roster) × (s'.tray ≡ switched s.tray c (not (flag == 0)))
Does sheet s (fill c byte) answer s' =
    (answer ≡ Done) × (s'.roster ≡ s.roster) × Filled s.roster c (replicate s.roster.size byte) s.tray (rows s.roster.width) s'.tray

-- ---- a command, accepted or refused: a refused one changes nothing, and leaves the work space as it was

pub record Obeyed (sheet : List ℕ) (s : Held) (x : Operation) (work : List ℕ) (told : Result Answer Fault) (work' : List ℕ) (s' : Held) : Type 0 where
  pub value : verdict_of told ≡ judging sheet s x (length work)
  pub done : MatchResult told (λ answer. Does sheet s x answer s') (λ _. s' ≡ s)
  pub spared : IfErr told (λ _. work' ≡ work)
