-- What a flat tray owes as a tray: its blocks have its size, and its tallies are below 2^32.
use Rattle.std.specs.Prelude.{◌≡◌, ℕ, ◌+◌, ◌*◌, ◌%◌, ◌^◌, ◌<◌, ◌≤◌, true, ◌&&◌, length, nat_le, nat_lt, slice_index_or}
use Rattle.std.proofs.Common.{mul-le-mul_right, add-mul, arith, length-take, length-drop}
use Rattle.std.proofs.lemmas.Nat.{mul-add-lt}
use Rattle.std.proofs.lemmas.Bool.{leb-true, lt-ltb, cond_both, and_parts}
use Rattle.tray.specs.declared.flat.Flat.{Flat}
use Rattle.tray.specs.Limits.{flat_columns, flat_rows, flat_size, has_room}
use Rattle.tray.specs.Meaning.{Sized, Wraps, empty}
use Rattle.tray.specs.FlatColumns.{absent}
use Rattle.tray.specs.FlatTrays.{roomy, flat_of}

-- The block of a place lies within the memory.
pub place_within : (columns rows size c r n : ℕ) → c < columns → r < rows → columns * rows * size ≤ n → (c * rows + r) * size + size ≤ n
place_within columns rows size c r n hc hr h =
    let p : c * rows + r + 1 ≤ columns * rows = omega (arith, mul-add-lt c rows r columns hc hr) in
    omega (arith, mul-le-mul_right size p, add-mul (c * rows + r) 1 size)

-- What it says that there is room.
pub room_parts : (c r s n : ℕ) → has_room c r s n ≡ true → (c ≤ flat_columns) × (r ≤ flat_rows) × (s ≤ flat_size) × (c * r * s ≤ n)
room_parts c r s n e =
    let p = and_parts (nat_le c flat_columns) (nat_le r flat_rows && (nat_le s flat_size && nat_le (c * r * s) n)) e in
    let q = and_parts (nat_le r flat_rows) (nat_le s flat_size && nat_le (c * r * s) n) p.1 in
    let o = and_parts (nat_le s flat_size) (nat_le (c * r * s) n) q.1 in
    (leb-true c flat_columns p.0, leb-true r flat_rows q.0, leb-true s flat_size o.0, leb-true (c * r * s) n o.1)

pub flat_sized : (t : Flat) → Sized (flat_of t)
flat_sized t =
    let s = t.shape in
    cond_both _ (roomy s.columns s.rows s.size t.table t.cells.now) empty Sized
    (λ e c r hc hr.
    let room = room_parts s.columns s.rows s.size (length t.cells.now) e in
    let within = place_within s.columns s.rows s.size c r (length t.cells.now) hc hr room.3 in
    simp (lt-ltb c s.columns hc, lt-ltb r s.rows hr, length-take, length-drop) (omega arith))
    (λ _ c r hc hr. absurd (omega arith))

pub flat_wraps : (t : Flat) → Wraps (flat_of t)
flat_wraps t =
    let s = t.shape in
    cond_both _ (roomy s.columns s.rows s.size t.table t.cells.now) empty Wraps
    (λ _ c. cond_both (nat_lt c s.columns) ((slice_index_or t.table c absent).reads % 2 ^ 32) 0 (λ n. n < 2 ^ 32) (λ _. omega arith) (λ _. omega arith))
    (λ _ c. omega arith)
