-- The law of shelves: what stands of any shelves of one width and block size, each on a tray of any make, whatever the
-- calls on them were.
-- The columns in service are here those that are not missing, even in a drill.
use Rattle.std.specs.Prelude.{◌≡◌, ℕ, ◌+◌, ◌-◌, ◌^◌, ◌<◌, true, false, ◌≢◌, List, None, Option}
use Rattle.tray.specs.Meaning.{Meaning}
use Rattle.code.specs.Widths.{is_width}
use Rattle.code.specs.Code.{Rule, rows, dark, meets}
use Rattle.code.specs.Neighbours.{published}
use Rattle.law.specs.Service.{Columns, added, AtMostTwo, Sole}
use Rattle.law.specs.Holding.{Fits}
use Rattle.law.specs.Tallies.{reads}
use Rattle.law.specs.Calls.{Got, Swept}
use Rattle.law.specs.Runs.{Shelf, Event, accepted, rebuild, taken, idle, last_put, missing, Point, between, inside, Step, Run}

-- the columns that the roster has out at a point of a run: those missing, and the column of a drill that took it out
abbrev pub out_at : Point → Columns → Columns
out_at between gone = gone
out_at (inside before (taken c) inner) gone = added gone c
out_at (inside before (idle c) inner) gone = gone

-- two trays hold the same bytes in all columns but p and q
abbrev pub SameBut : ℕ → ℕ → ℕ → Meaning → Meaning → Type 0
SameBut k p q m₁ m₂ = (c r : ℕ) → c < k + 2 → c ≢ p → c ≢ q → r < rows k → m₁.block c r ≡ m₂.block c r

-- the k columns other than p and q are in service
abbrev pub InServiceBut : ℕ → ℕ → ℕ → Columns → Type 0
InServiceBut k p q gone = (c : ℕ) → c < k + 2 → c ≢ p → c ≢ q → gone c ≡ false

-- two trays hold the same in the blocks named for data column j: the rows dark for j in the other data columns and in
-- column k, and the lines of the white rows of j in column k + 1
pub record SameNamed (k j : ℕ) (m₁ m₂ : Meaning) : Type 0 where
  pub columns : (i c : ℕ) → i < rows k → dark i j ≡ true → c < k + 1 → c ≢ j → m₁.block c i ≡ m₂.block c i
  pub lines : (i : ℕ) → i < rows k → dark i j ≡ false → m₁.block (k + 1) (meets i j) ≡ m₂.block (k + 1) (meets i j)

pub record Law (k : ℕ) (right : Rule) (size : ℕ) : Type 0 where
  -- ---- At any point of a run, inside a drill too,
  -- the columns in service fit the blocks last put;
  pub fits : (calls : List Event) (at : Point) (s : Shelf) → Run k right size calls at s → Fits k right size (missing calls) (last_put size calls) s.tray
  -- and where the same k columns, in service on two shelves, hold the same bytes on both, each data place was last put
  -- the same block on both.
  pub same_puts : (calls₁ calls₂ : List Event) (at₁ at₂ : Point) (s₁ s₂ : Shelf) → Run k right size calls₁ at₁ s₁ → Run k right size calls₂ at₂ s₂
      → (p q : ℕ) → p < k + 2 → q < k + 2 → p ≢ q → InServiceBut k p q (missing calls₁) → InServiceBut k p q (missing calls₂) → SameBut k p q s₁.tray s₂.tray
      → (i j : ℕ) → i < rows k → j < k → last_put size calls₁ i j ≡ last_put size calls₂ i j
  -- ---- An accepted rebuild of the only missing column, where that is a data column,
  -- makes exactly 2^(k-2) reads in each survivor;
  pub half_read : (calls : List Event) (s s' : Shelf) → Run k right size calls between s
      → (j : ℕ) → j < k → Sole k (missing calls) j → Step k right size s s' (accepted (rebuild j))
      → (c : ℕ) → c < k + 2 → c ≢ j → reads s.tray s'.tray c ≡ 2 ^ (k - 2)
  -- and where two shelves lack that column alone and agree on the blocks named for it, it writes the same bytes on both.
  pub same_rebuilds : (calls₁ calls₂ : List Event) (s₁ s₁' s₂ s₂' : Shelf) → Run k right size calls₁ between s₁ → Run k right size calls₂ between s₂
      → (j : ℕ) → j < k → Sole k (missing calls₁) j → Sole k (missing calls₂) j → SameNamed k j s₁.tray s₂.tray
      → Step k right size s₁ s₁' (accepted (rebuild j)) → Step k right size s₂ s₂' (accepted (rebuild j))
      → (i : ℕ) → i < rows k → s₁'.tray.block j i ≡ s₂'.tray.block j i
  -- ---- Further:
  -- every accepted get, inside a drill too, answers the block last put to its place;
  pub gets : (calls : List Event) (at : Point) (s : Shelf) → Run k right size calls at s
      → (j i : ℕ) (v : List ℕ) (m' : Meaning) → Got k right size s.out s.tray j i v m' → v ≡ last_put size calls i j
  -- every accepted sweep says clean;
  pub sweeps : (calls : List Event) (s : Shelf) → Run k right size calls between s
      → (found : Option (ℕ × ℕ)) (m' : Meaning) → Swept k right size s.out s.tray found m' → found ≡ None
  -- never more than two columns are missing, and the roster has out just these, and the column of a drill.
  pub at_most_two : (calls : List Event) (at : Point) (s : Shelf) → Run k right size calls at s → AtMostTwo (missing calls)
  pub roster : (calls : List Event) (at : Point) (s : Shelf) → Run k right size calls at s → (c : ℕ) → s.out c ≡ out_at at (missing calls) c

abbrev pub LawOfShelves : Type 0
LawOfShelves = (k size : ℕ) → is_width k ≡ true → Law k (published k) size
