-- Reads, told by the tallies of a tray.
use Rattle.std.specs.Prelude.{◌≡◌, ℕ, zero, suc, ◌+◌, ◌-◌, ◌%◌, ◌^◌, ◌<◌, Bool, true, not, ◌&&◌, ◌||◌, nat_lt}
use Rattle.tray.specs.Meaning.{Meaning}
use Rattle.code.specs.Numbers.{any}
use Rattle.law.specs.Service.{Columns, removed, AtMostTwo, Sole}

-- the reads of column c between two states of a tray: its tally's growth, modulo 2^32
unfoldable pub reads : Meaning → Meaning → ℕ → ℕ
reads m m' c = (m'.tally c + (2 ^ 32 - m.tally c % 2 ^ 32)) % 2 ^ 32

-- f 0 + f 1 + .. + f (n - 1)
unfoldable pub total : ℕ → (ℕ → ℕ) → ℕ
total zero f = 0
total (suc n) f = total n f + f n

-- the columns that tell all data when column c is rebuilt: those in service, but not the parity column left over where
-- a parity column alone is out
unfoldable pub sources : ℕ → Columns → ℕ → ℕ → Bool
sources k out c x = not (out x) && (nat_lt x k || any (k + 2) (removed out c))

-- the rebuild of column c reads columns whole: it is not a data column that alone is out
pub record ReadsWhole (k : ℕ) (out : Columns) (c : ℕ) : Type 0 where
  pub two : AtMostTwo out
  pub column : c < k + 2
  pub was_out : out c ≡ true
  pub other : c < k → Sole k out c → ⊥
