-- What a cabinet owes as a tray: its blocks have its size, and its tallies are below 2^32.
use Rattle.std.specs.Prelude.{◌≡◌, ℕ, ◌+◌, ◌*◌, ◌<◌, ◌≤◌, [], length, vec_items, slice_index_or}
use Rattle.std.proofs.Common.{mul-le-mul_right, add-mul, arith, length-take, length-drop}
use Rattle.std.proofs.lemmas.Bool.{lt-ltb}
use Rattle.tray.specs.Meaning.{Sized, Wraps}
use Rattle.cabinet.specs.declared.cabinets.Cabinet.{Cabinet}
use Rattle.cabinet.specs.Drawers.{held}
use Rattle.cabinet.specs.Cabinets.{cabinet_of}

-- A row lies within a drawer that has all rows.
pub row_within : (rows size r n : ℕ) → r < rows → n ≡ rows * size → r * size + size ≤ n
row_within rows size r n hr e =
    let p : r + 1 ≤ rows = omega arith in
    omega (arith, mul-le-mul_right size p, add-mul r 1 size)

pub cabinet_sized : (t : Cabinet) → Sized (cabinet_of t)
cabinet_sized t c r hc hr =
    let s = t.shape in
    let drawer = slice_index_or (held (vec_items t.drawers)) c [] in
    let within = row_within s.rows s.size r (length drawer) hr (t.stocked.1 c hc) in
    simp (lt-ltb c s.columns hc, lt-ltb r s.rows hr, length-take, length-drop) (omega arith)

pub cabinet_wraps : (t : Cabinet) → Wraps (cabinet_of t)
cabinet_wraps t c = omega arith
