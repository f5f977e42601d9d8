-- What is added to the parities where a data block changes.
use Rattle.std.specs.Prelude.{◌≡◌, ℕ, ◌+◌, ◌<◌, Bool, true, false, not, ◌&&◌, ◌||◌, List, ◌==◌, bit_xor, slice_index}
use Rattle.tray.specs.Meaning.{Meaning}
use Rattle.code.specs.Numbers.{any}
use Rattle.code.specs.Code.{Rule, meets}
use Rattle.code.specs.Lines.{takes, holds}
use Rattle.law.specs.Service.{Columns}
use Rattle.law.specs.Holding.{held, SameFrame}

-- places of a tray, by column and row
abbrev pub Places : Type 0
Places = ℕ → ℕ → Bool

-- the block x was added to the blocks at these places, and nothing else was written
pub record AddedAt (size : ℕ) (m : Meaning) (x : List ℕ) (places : Places) (m' : Meaning) : Type 0 where
  pub plus : (c r b : ℕ) → places c r ≡ true → b < size → held m' b r c ≡ bit_xor (held m b r c) (slice_index x b)
  pub rest : (c r : ℕ) → places c r ≡ false → m'.block c r ≡ m.block c r
  pub frame : SameFrame m m'

-- row i of column j alone
abbrev pub only_at : ℕ → ℕ → Places
only_at j i c r = j == c && i == r

-- the line that meets column t in row i, if its sum holds the place (i, j)
abbrev pub line_by : ℕ → Rule → ℕ → ℕ → ℕ → Places
line_by k right i j t c r = k + 1 == c && (meets i t == r && takes right i t j)

-- those of the columns below t
abbrev pub lines_below : ℕ → Rule → ℕ → ℕ → ℕ → Places
lines_below k right i j t c r = k + 1 == c && any t (λ s. (meets i s == r) && takes right i s j)

-- the lines whose sums hold the place (i, j)
abbrev pub line_places : ℕ → Rule → ℕ → ℕ → Places
line_places k right i j c r = k + 1 == c && holds k right r i j

-- those of the places whose columns are in service
abbrev pub places_in_service : Columns → Places → Places
places_in_service out places c r = not (out c) && places c r

-- the parities of the place (i, j) that are in service: its row's sum, and the lines that hold it
abbrev pub parities_of : ℕ → Rule → Columns → ℕ → ℕ → Places
parities_of k right out i j c r = places_in_service out (only_at k i) c r || places_in_service out (line_places k right i j) c r
