-- What a split tray means: two trays side by side, the left one's columns first.
use Rattle.std.specs.Prelude.{ℕ, ◌+◌, ◌-◌, Bool, cond, ◌&&◌, Ok, Err, Result, ◌==◌, nat_le, nat_lt}
use Rattle.tray.specs.declared.fault.Fault.{Fault}
use Rattle.tray.specs.declared.split.Half.{Half}
use Rattle.tray.specs.declared.split.Half.TheVariants.{Left, Right}
use Rattle.tray.specs.Limits.{split_columns}
use Rattle.tray.specs.Meaning.{Meaning, empty}
use Rattle.tray.specs.Refusals.{fault_at}

-- Two trays side by side: column c is the left one's where that has it, and else the right one's.
abbrev pub beside : Meaning → Meaning → Meaning
beside l r = record {
  columns = l.columns + r.columns;
  rows = l.rows;
  size = l.size;
  answers = λ c. cond (nat_lt c l.columns) (l.answers c) (r.answers (c - l.columns));
  block = λ c i. cond (nat_lt c l.columns) (l.block c i) (r.block (c - l.columns) i);
  tally = λ c. cond (nat_lt c l.columns) (l.tally c) (r.tally (c - l.columns));
}

-- Whether two trays have the same rows and block size, and not too many columns together.
abbrev pub matching : Meaning → Meaning → Bool
matching l r = l.rows == r.rows && (l.size == r.size && nat_le (l.columns + r.columns) split_columns)

-- A split tray; it is empty where its halves do not match.
abbrev pub split_of : Meaning → Meaning → Meaning
split_of l r = cond (matching l r) (beside l r) empty

-- The half of a split tray in which column c lies, with its number there.
abbrev pub half_of : Meaning → ℕ → Half
half_of l c = cond (nat_lt c l.columns) (Left c) (Right (c - l.columns))

-- An answer whose fault is told of column c.
abbrev pub answer_at : {X : Type 0} → Result X Fault → ℕ → Result X Fault
answer_at (Ok x) c = Ok x
answer_at (Err f) c = Err (fault_at f c)
