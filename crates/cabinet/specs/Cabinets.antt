-- What a cabinet means.
use Rattle.std.specs.Prelude.{ℕ, ◌*◌, ◌%◌, ◌^◌, cond, ◌&&◌, List, [], take, drop, replicate, vec_items, nat_lt, slice_index, slice_index_or}
use Rattle.tray.specs.declared.trays.Shape.{Shape}
use Rattle.tray.specs.Meaning.{Meaning}
use Rattle.cabinet.specs.declared.cabinets.Cabinet.{Cabinet}
use Rattle.cabinet.specs.declared.drawers.Drawer.{Drawer}
use Rattle.cabinet.specs.Drawers.{held, counts}

-- A cabinet by its shape, the bytes in each drawer and the reads of each. Every column answers.
abbrev pub cabinet_meaning : ℕ → ℕ → ℕ → List (List ℕ) → List ℕ → Meaning
cabinet_meaning columns rows size bytes reads = record {
  columns = columns;
  rows = rows;
  size = size;
  answers = λ c. nat_lt c columns;
  block = λ c r. cond (nat_lt c columns && nat_lt r rows) (take size (drop (r * size) (slice_index_or bytes c []))) [];
  tally = λ c. slice_index reads c % 2 ^ 32;
}

-- A cabinet by its shape and its drawers.
abbrev pub drawers_of : Shape → List Drawer → Meaning
drawers_of shape drawers = cabinet_meaning shape.columns shape.rows shape.size (held drawers) (counts drawers)

abbrev pub cabinet_of : Cabinet → Meaning
cabinet_of t = drawers_of t.shape (vec_items t.drawers)

-- A new cabinet: every column answers, none was read, and every block is zeros.
abbrev pub blank : ℕ → ℕ → ℕ → Meaning
blank columns rows size = record {
  columns = columns;
  rows = rows;
  size = size;
  answers = λ c. nat_lt c columns;
  block = λ c r. cond (nat_lt c columns && nat_lt r rows) (replicate size 0) [];
  tally = λ _. 0;
}
