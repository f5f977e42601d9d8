-- What a flat tray means once it is made, and once a block is written.
use Rattle.std.proofs.Common.{rules, ◌≡◌, Bool, set, ℕ, ◌+◌, ◌*◌, ◌<◌, ◌≤◌, true, false, cond, ◌&&◌, eqb, ltb, List, [], length, get_or, replicate, sym, refl, ap, ap₂, ⊎_elim, arith}
use mathlib.Core.Path.{fun_ext}
use lib.Seq.{paste}
use Rattle.std.proofs.lemmas.List.{get_or-replicate}
use Rattle.std.proofs.lemmas.List.Edits.{length-paste}
use Rattle.std.proofs.lemmas.Bool.{cases_eq, cases_lt, cases_Bool, eq-eqb, ne_eqb, lt-ltb, le-ltb}
use Rattle.tray.specs.declared.trays.Shape.{Shape}
use Rattle.tray.specs.declared.flat.Flat.{Flat}
use Rattle.tray.specs.declared.flat.columns.Column.{Column}
use Rattle.tray.specs.Meaning.{Meaning, tallied, stored, switched}
use Rattle.tray.specs.Limits.{flat_columns, has_room}
use Rattle.tray.specs.FlatTrays.{start_of, blocks_in, roomy, flat_meaning, flat_of, fresh, new_flat, written}
use Rattle.tray.specs.FlatColumns.{absent, counted, turned}
use Rattle.tray.specs.FlatOwes.{place_within, room_parts}
use Rattle.tray.proofs.Places.{places_apart, put_there, put_elsewhere}

-- a memory with room, and a block put into it at column c and row r
module _ (columns rows size : ℕ) (cells : List ℕ) (room : columns * rows * size ≤ length cells) (c r : ℕ) (bytes : List ℕ) (hc : c < columns) (hr : r < rows) (e : length bytes ≡ size) where
  within : start_of rows size c r + size ≤ length cells
  within = place_within columns rows size c r (length cells) hc hr room

  block_stored : (j i : ℕ) → blocks_in columns rows size (paste cells (start_of rows size c r) bytes size) j i ≡ cond (eqb j c && eqb i r) bytes (blocks_in columns rows size cells j i)
  block_stored j i =
      let at = start_of rows size c r in
      let here : j ≡ c → i ≡ r → blocks_in columns rows size (paste cells at bytes size) j i ≡ cond (eqb j c && eqb i r) bytes (blocks_in columns rows size cells j i) =
      λ p q. simp (p, q, lt-ltb c columns hc, lt-ltb r rows hr, eq-eqb c c refl, eq-eqb r r refl) (put_there cells bytes at size (sym e) within) in
      let away : (j ≡ c → i ≡ r → ⊥) → blocks_in columns rows size (paste cells at bytes size) j i ≡ blocks_in columns rows size cells j i =
      λ n. ⊎_elim
      (λ l. ap (λ b. cond (ltb j columns && ltb i rows) b []) (put_elsewhere cells bytes at size (start_of rows size j i) (sym e) within (places_apart rows size c r j i hr l n)))
      (λ l. ⊎_elim (λ k. simp (lt-ltb j columns k, le-ltb i rows l)) (λ k. simp (le-ltb j columns k)) (cases_lt j columns))
      (cases_lt i rows) in
      ⊎_elim
      (λ p. ⊎_elim (here p) (λ n. simp (eq-eqb j c p, ne_eqb i r n) (away (λ _. n))) (cases_eq i r))
      (λ n. simp (ne_eqb j c n) (away (λ p _. n p)))
      (cases_eq j c)

-- A tray with a column has room.
pub fitted : (t : Flat) (c : ℕ) → c < (flat_of t).columns → has_room t.shape.columns t.shape.rows t.shape.size (length t.cells.now) ≡ true
fitted t c h = ⊎_elim (λ e. e) (λ e. absurd (let k : c < 0 = rw e at h in omega arith)) (cases_Bool (has_room t.shape.columns t.shape.rows t.shape.size (length t.cells.now)))

-- A block written in a whole tray, which may have another memory of the same length.
abbrev pub with_cells : Flat → List ℕ → Meaning
with_cells t cells = flat_meaning t.shape.columns t.shape.rows t.shape.size t.table cells

pub block_written : (t : Flat) (c r : ℕ) → c < (flat_of t).columns → r < (flat_of t).rows → (bytes : List ℕ) → length bytes ≡ (flat_of t).size → with_cells t (written (flat_of t) c r bytes t.cells.now) ≡ stored (flat_of t) c r bytes
block_written t c r hc hr bytes e =
    let n = length t.cells.now in
    let s = t.shape in
    let h = fitted t c hc in
    let kc : c < s.columns = rw h at hc in
    let kr : r < s.rows = rw h at hr in
    let ke : length bytes ≡ s.size = rw h at e in
    let room = room_parts s.columns s.rows s.size n h in
    let m = roomy s.columns s.rows s.size t.table t.cells.now in
    let with_blocks : (ℕ → ℕ → List ℕ) → Meaning = λ b. record { columns = s.columns; rows = s.rows; size = s.size; answers = m.answers; block = b; tally = m.tally } in
    let at = start_of s.rows s.size c r in
    let long = length-paste t.cells.now at bytes s.size (place_within s.columns s.rows s.size c r n kc kr room.3) (omega arith) in
    rw (h, long, h) (ap with_blocks (fun_ext (λ j. fun_ext (λ i. block_stored s.columns s.rows s.size t.cells.now room.3 c r bytes kc kr ke j i))))

-- fresh records for all columns
abbrev new_table : List Column
new_table = replicate flat_columns (record { answering = true; reads = 0 })

-- A tray with them is a new one, in a shape that has room,
flat_fresh : (columns rows size : ℕ) (cells : List ℕ) → columns ≤ flat_columns → roomy columns rows size new_table cells ≡ fresh columns rows size cells
flat_fresh columns rows size cells h =
    ap₂ (λ a t. record { columns = columns; rows = rows; size = size; answers = a; block = blocks_in columns rows size cells; tally = t })
    (fun_ext (λ j. ⊎_elim (λ (k : j < columns). simp (lt-ltb j columns k, its j k)) (λ (k : columns ≤ j). simp (le-ltb j columns k)) (cases_lt j columns)))
    (fun_ext (λ j. ⊎_elim (λ (k : j < columns). simp (lt-ltb j columns k, its j k)) (λ (k : columns ≤ j). simp (le-ltb j columns k)) (cases_lt j columns)))
  where
    its : (j : ℕ) → j < columns → get_or new_table j absent ≡ record { answering = true; reads = 0 }
    its j k = get_or-replicate flat_columns j (record { answering = true; reads = 0 }) absent (omega arith)

-- and of the shape that was asked for where that has room.
pub flat_new : (s : Shape) (cells : List ℕ) → flat_meaning s.columns s.rows s.size new_table cells ≡ new_flat s.columns s.rows s.size cells
flat_new s cells =
    ⊎_elim
    (λ (h : has_room s.columns s.rows s.size (length cells) ≡ true). rw h (flat_fresh s.columns s.rows s.size cells (room_parts s.columns s.rows s.size (length cells) h).0))
    (λ (h : has_room s.columns s.rows s.size (length cells) ≡ false). rw h refl)
    (cases_Bool (has_room s.columns s.rows s.size (length cells)))

-- One more read of a column, and its flag set, in the record of the column: all else is as it was.
module _ (columns rows size : ℕ) (table : List Column) (cells : List ℕ) (c : ℕ) (hc : c < columns) (ht : c < length table) where
  pub flat_tallied : roomy columns rows size (set table c (counted (get_or table c absent))) cells ≡ tallied (roomy columns rows size table cells) c
  flat_tallied = search rules

  pub flat_switched : (on : Bool) → roomy columns rows size (set table c (turned (get_or table c absent) on)) cells ≡ switched (roomy columns rows size table cells) c on
  flat_switched on = search rules
