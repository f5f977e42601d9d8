-- What each accepted call does: m and out are the tray and the columns out of service before it, m' and out' after it.
-- A tally that no field speaks of is free.
use Rattle.std.specs.Prelude.{◌≡◌, ℕ, ◌+◌, ◌-◌, ◌%◌, ◌^◌, ◌<◌, ◌≤◌, Bool, true, false, cond, not, ◌&&◌, ◌≢◌, ◌⊎◌, List, length, replicate, Some, None, Option, ◌==◌, bit_xor, nat_lt, slice_index}
use Rattle.tray.specs.Meaning.{Meaning, tallied}
use Rattle.code.specs.Code.{Rule, rows, value}
use Rattle.code.specs.Lines.{holds}
use Rattle.code.specs.Laws.{lane}
use Rattle.law.specs.Service.{Columns, added, removed, AtMostOne, Sole}
use Rattle.law.specs.Holding.{Data, held, Shaped, SameFrame, Calm}
use Rattle.law.specs.Hand.{AtHand}
use Rattle.law.specs.Tallies.{reads, total, sources}

-- ---- layout: zeros everywhere

pub record Laid (k size : ℕ) (m m' : Meaning) : Type 0 where
  pub shape : Shaped k size m
  pub frame : SameFrame m m'
  pub tally : m'.tally ≡ m.tally
  pub zeros : (c r : ℕ) → c < k + 2 → r < rows k → m'.block c r ≡ replicate size 0

-- ---- pull of column c: it is out too

pub record Pulled (k : ℕ) (out : Columns) (c : ℕ) (out' : Columns) : Type 0 where
  pub column : c < k + 2
  pub was_in : out c ≡ false
  pub room : AtMostOne out
  pub after : (x : ℕ) → out' x ≡ added out c x

-- ---- get of row i of data column j: v is the data at hand

pub record Got (k : ℕ) (right : Rule) (size : ℕ) (out : Columns) (m : Meaning) (j i : ℕ) (v : List ℕ) (m' : Meaning) : Type 0 where
  pub column : j < k
  pub row : i < rows k
  pub at_hand : AtHand k right size out m i j v
  pub calm : Calm m m'
  -- a column in service: that one block is read
  pub one_read : out j ≡ false → m'.tally ≡ (tallied m j).tally

-- ---- put of the block x to row i of data column j

-- the put writes row r of column c
unfoldable pub writes : ℕ → Rule → Columns → ℕ → ℕ → ℕ → ℕ → Bool
writes k right out j i c r = not (out c) && cond (nat_lt c k) (c == j && r == i) (cond (c == k) (r == i) (holds k right r i j))

pub record Put (k : ℕ) (right : Rule) (size : ℕ) (out : Columns) (m : Meaning) (j i : ℕ) (x : List ℕ) (m' : Meaning) : Type 0 where
  pub column : j < k
  pub row : i < rows k
  pub long : length x ≡ size
  -- the block that was there
  pub v : List ℕ
  pub at_hand : AtHand k right size out m i j v
  -- x is written if its column is in service
  pub place : out j ≡ false → m'.block j i ≡ x
  -- v xor x is added to the row's sum, and to every line that holds the place
  pub sum : out k ≡ false → (b : ℕ) → b < size → held m' b i k ≡ bit_xor (held m b i k) (bit_xor (slice_index v b) (slice_index x b))
  pub lines : out (k + 1) ≡ false → (n : ℕ) → n < rows k → holds k right n i j ≡ true
      → (b : ℕ) → b < size → held m' b n (k + 1) ≡ bit_xor (held m b n (k + 1)) (bit_xor (slice_index v b) (slice_index x b))
  -- nothing else is written
  pub rest : (c r : ℕ) → c < k + 2 → r < rows k → writes k right out j i c r ≡ false → m'.block c r ≡ m.block c r
  pub frame : SameFrame m m'

-- ---- rebuild of column c, with the number of reads that it answers

pub record Rebuilt (k : ℕ) (right : Rule) (size : ℕ) (out : Columns) (m : Meaning) (c answer : ℕ) (out' : Columns) (m' : Meaning) : Type 0 where
  pub column : c < k + 2
  pub was_out : out c ≡ true
  -- the data at hand; the column is filled with them, or with their parity
  pub D : Data
  pub at_hand : (i j : ℕ) → i < rows k → j < k → AtHand k right size out m i j (D i j)
  pub filled : (r b : ℕ) → r < rows k → b < size → held m' b r c ≡ value k right (lane D b) c r
  pub rest : (x r : ℕ) → x < k + 2 → r < rows k → x ≢ c → m'.block x r ≡ m.block x r
  pub frame : SameFrame m m'
  -- the column is in service again
  pub after : (x : ℕ) → out' x ≡ removed out c x
  pub counted : answer ≡ total (k + 2) (reads m m') % 2 ^ 32
  -- a data column that alone is out: half of each other column is read, and nothing of its own
  pub half : c < k → Sole k out c → (x : ℕ) → x < k + 2 → reads m m' x ≡ cond (x == c) 0 (2 ^ (k - 2))
  -- any other column: k columns are read, each block once
  pub whole : (c < k → Sole k out c → ⊥) → (x : ℕ) → x < k + 2 → reads m m' x ≡ cond (sources k out c x) (rows k) 0

-- ---- sweep: the first parity place that does not fit the data columns, or clean

-- a parity column holds in a row, or at a line, what the data columns give
abbrev pub PlaceFits : ℕ → Rule → ℕ → Meaning → ℕ → ℕ → Type 0
PlaceFits k right size m c r = (b : ℕ) → b < size → held m b r c ≡ value k right (held m b) c r

-- column k by rows, then column k + 1 by lines
abbrev pub Earlier : ℕ → ℕ → ℕ × ℕ → Type 0
Earlier c r p = (c < p.0) ⊎ ((c ≡ p.0) × (r < p.1))

pub record FirstMisfit (k : ℕ) (right : Rule) (size : ℕ) (m : Meaning) (p : ℕ × ℕ) : Type 0 where
  pub parity : k ≤ p.0
  pub column : p.0 < k + 2
  pub row : p.1 < rows k
  pub misfit : PlaceFits k right size m p.0 p.1 → ⊥
  pub before : (c r : ℕ) → k ≤ c → c < k + 2 → r < rows k → Earlier c r p → PlaceFits k right size m c r

abbrev pub Finding : ℕ → Rule → ℕ → Meaning → Option (ℕ × ℕ) → Type 0
Finding k right size m None = (c r : ℕ) → k ≤ c → c < k + 2 → r < rows k → PlaceFits k right size m c r
Finding k right size m (Some p) = FirstMisfit k right size m p

pub record Swept (k : ℕ) (right : Rule) (size : ℕ) (out : Columns) (m : Meaning) (found : Option (ℕ × ℕ)) (m' : Meaning) : Type 0 where
  pub all_in : (c : ℕ) → c < k + 2 → out c ≡ false
  pub finding : Finding k right size m found
  pub calm : Calm m m'
