-- A rebuild: where a missing column lies in the work space once it is found, how it is written, and how much is read for it.
use Rattle.std.specs.Prelude.{◌≡◌, ℕ, ◌+◌, ◌-◌, ◌*◌, ◌^◌, true, false, cond, ◌&&◌, List, take, drop, Result, ◌==◌, nat_lt}
use Rattle.tray.specs.declared.fault.Fault.{Fault}
use Rattle.tray.specs.Meaning.{Meaning, Sized}
use Rattle.code.specs.Code.{Rule, rows}
use Rattle.law.specs.Holding.{held}
use Rattle.law.specs.Runs.{rebuild}
use Rattle.law.specs.Promises.{told}
use Rattle.shelf.specs.declared.roster.missing.Missing.{Missing}
use Rattle.shelf.specs.declared.roster.missing.Missing.TheVariants.{Nothing, One, Two}
use Rattle.shelf.specs.declared.rebuild.Whereabouts.{Whereabouts}
use Rattle.shelf.specs.declared.rebuild.Whereabouts.TheVariants.{Alone, ByRows}
use Rattle.shelf.specs.Missing.{is_out}
use Rattle.shelf.specs.Rosters.{Rostered}
use Rattle.shelf.specs.Promises.{CarriesOn}
use Rattle.shelf.specs.Wiped.{holding}
use Rattle.shelf.specs.Reading.{after_reads, once_each}
use Rattle.shelf.specs.Recovering as recovering
use Rattle.shelf.specs.Recovering.{is_sole_data, slot_for}
use Rattle.shelf.specs.Regaining as regaining
use Rattle.shelf.specs.Regaining.{sole_slot, half_of}

-- ---- where the column lies

-- the slot of row r of column c
abbrev pub slot_of : ℕ → Whereabouts → ℕ → ℕ → ℕ
slot_of k Alone c r = sole_slot k c r
slot_of k (ByRows by) c r = slot_for k by c r

-- the two columns that are taken as missing, where it is not a data column alone: with all data in service, both parities are
-- made of them, whatever the other parity holds
abbrev pub pair_of : ℕ → Missing → Missing
pair_of k Nothing = Two k (k + 1)
pair_of k (One a) = Two k (k + 1)
pair_of k (Two a b) = Two a b

-- column c is found: m is the tray before, m' after the reads
pub record Located (k : ℕ) (right : Rule) (size : ℕ) (out : Missing) (m : Meaning) (c : ℕ) (found : Whereabouts) (m' : Meaning) (work : List ℕ) : Type 0 where
  pub alone : found ≡ Alone
      → (is_sole_data k out ≡ true) × (m' ≡ after_reads m (half_of k c)) × regaining.Found k right size c (held m) work
  pub by_rows : (by : ℕ) → found ≡ ByRows by
      → (is_sole_data k out ≡ false) × (m' ≡ after_reads m (once_each k (is_out (pair_of k out)))) × recovering.Found k right size (is_out (pair_of k out)) m by work

-- ---- how it is written

-- the block in slot s
unfoldable pub slot_block : ℕ → List ℕ → ℕ → List ℕ
slot_block size work s = take size (drop (s * size) work)

-- block `f i` in each row i below n of column c
abbrev pub written : Meaning → ℕ → ℕ → (ℕ → List ℕ) → Meaning
written m c n f = holding m (λ j i. cond (j == c && nat_lt i n) (f i) (m.block j i))

-- ---- how much is read

-- half of each other column for a data column alone, else k columns
abbrev pub reads_for : ℕ → Whereabouts → ℕ
reads_for k Alone = (k + 1) * 2 ^ (k - 2)
reads_for k (ByRows by) = k * rows k

abbrev pub reads_of : ℕ → Missing → ℕ
reads_of k out = cond (is_sole_data k out) ((k + 1) * 2 ^ (k - 2)) (k * rows k)

-- how a rebuild carries every run of the shelf on
abbrev pub RebuildCarries : Rostered → (m : Meaning) → Sized m → ℕ → Result ℕ Fault → Rostered → (m' : Meaning) → Sized m' → Type 0
RebuildCarries r m sized c answer r' m' sized' = CarriesOn r m sized (told answer (rebuild c)) r' m' sized'
