-- The drawers of a cabinet by what they hold.
use Rattle.std.specs.Prelude.{◌≡◌, ℕ, ◌*◌, ◌<◌, List, [], map, length, replicate, vec_items, slice_index_or}
use Rattle.tray.specs.declared.trays.Shape.{Shape}
use Rattle.cabinet.specs.declared.drawers.Drawer.{Drawer}

-- A drawer of n zero bytes that was never read.
pub record IsFresh (n : ℕ) (drawer : Drawer) : Type 0 where
  pub bytes : vec_items drawer.bytes ≡ replicate n 0
  pub reads : drawer.reads ≡ 0

-- The bytes in each drawer.
abbrev pub held : List Drawer → List (List ℕ)
held drawers = map (λ d. vec_items d.bytes) drawers

-- How often each was read.
abbrev pub counts : List Drawer → List ℕ
counts drawers = map (λ d. d.reads) drawers

-- There is a drawer for each column, and each has all rows.
abbrev pub Stocked : Shape → List Drawer → Type 0
Stocked shape drawers = (length drawers ≡ shape.columns) × ((c : ℕ) → c < shape.columns → length (slice_index_or (held drawers) c []) ≡ shape.rows * shape.size)
