-- What a read and a write leave of a cabinet's meaning.
use Rattle.std.proofs.Common.{◌≡◌, ℕ, ◌+◌, ◌-◌, ◌*◌, ◌%◌, ◌^◌, ◌<◌, ◌≤◌, cond, ◌&&◌, eqb, ltb, List, [], length, get_or, set, replicate, vec_items, vec_len, sym, refl, ap, ◌∙◌, ap₂, ⊎_elim, arith}
use mathlib.Core.Path.{fun_ext}
use lib.Seq.{paste}
use Rattle.std.proofs.lemmas.List.{get_or-set_same, get_or-set_other, get_or-replicate, take-replicate, drop-replicate, length-replicate, length-map, get_or_past}
use Rattle.std.proofs.lemmas.Bool.{cases_eq, cases_lt, eq-eqb, ne_eqb, lt-ltb, le-ltb}
use Rattle.tray.specs.Meaning.{Meaning, tallied, stored}
use Rattle.tray.proofs.Places.{slots_apart, put_there, put_elsewhere}
use Rattle.cabinet.specs.declared.cabinets.Cabinet.{Cabinet}
use Rattle.cabinet.specs.declared.drawers.Drawer.{Drawer}
use Rattle.cabinet.specs.Drawers.{held, counts}
use Rattle.cabinet.specs.Cabinets.{cabinet_meaning, cabinet_of, blank}
use Rattle.cabinet.specs.Owes.{row_within}
use Rattle.cabinet.proofs.Stock.{its_bytes, its_reads, held_set, counts_set, held_same, counts_same}

module _ (columns rows size : ℕ) (bytes : List (List ℕ)) (reads : List ℕ) (c : ℕ) where
  tally_set : (j : ℕ) → c < length reads → get_or (set reads c ((get_or reads c 0 + 1) % 2 ^ 32)) j 0 % 2 ^ 32 ≡ cond (eqb j c) ((get_or reads c 0 % 2 ^ 32 + 1) % 2 ^ 32) (get_or reads j 0 % 2 ^ 32)
  tally_set j h =
      ⊎_elim
      (λ (p : j ≡ c). simp (p, eq-eqb c c refl, get_or-set_same reads c ((get_or reads c 0 + 1) % 2 ^ 32) 0 h) (omega arith))
      (λ (p : j ≡ c → ⊥). simp (ne_eqb j c p, get_or-set_other reads c j ((get_or reads c 0 + 1) % 2 ^ 32) 0 p))
      (cases_eq j c)

  pub read_counted : c < length reads → cabinet_meaning columns rows size bytes (set reads c ((get_or reads c 0 + 1) % 2 ^ 32)) ≡ tallied (cabinet_meaning columns rows size bytes reads) c
  read_counted h =
      let with_tally : (ℕ → ℕ) → Meaning = λ t. record { columns = columns; rows = rows; size = size; answers = λ j. ltb j columns; block = (cabinet_meaning columns rows size bytes reads).block; tally = t } in
      ap with_tally (fun_ext (λ j. tally_set j h))

  module _ (r : ℕ) (block : List ℕ) (hc : c < columns) (h : c < length bytes) (hr : r < rows) (e : length block ≡ size) (full : length (get_or bytes c []) ≡ rows * size) where
    abbrev after : List (List ℕ)
    after = set bytes c (paste (get_or bytes c []) (r * size) block size)

    abbrev now_at : ℕ → ℕ → List ℕ
    now_at = (cabinet_meaning columns rows size after reads).block

    abbrev was_at : ℕ → ℕ → List ℕ
    was_at = (cabinet_meaning columns rows size bytes reads).block

    here : get_or after c [] ≡ paste (get_or bytes c []) (r * size) block size
    here = get_or-set_same bytes c (paste (get_or bytes c []) (r * size) block size) [] h

    block_set : (j i : ℕ) → now_at j i ≡ cond (eqb j c && eqb i r) block (was_at j i)
    block_set j i =
        let drawer = get_or bytes c [] in
        let within = row_within rows size r (length drawer) hr full in
        ⊎_elim
        (λ (p : j ≡ c).
        ⊎_elim
        (λ (q : i ≡ r). simp (p, q, eq-eqb c c refl, eq-eqb r r refl, lt-ltb c columns hc, lt-ltb r rows hr, here) (put_there drawer block (r * size) size (sym e) within))
        (λ (q : i ≡ r → ⊥). simp (p, eq-eqb c c refl, ne_eqb i r q, here) (ap (λ b. cond (ltb c columns && ltb i rows) b []) (put_elsewhere drawer block (r * size) size (i * size) (sym e) within (slots_apart size r i (λ s. q (sym s))))))
        (cases_eq i r))
        (λ (p : j ≡ c → ⊥). simp (ne_eqb j c p, get_or-set_other bytes c j (paste drawer (r * size) block size) [] p))
        (cases_eq j c)

    pub block_written : cabinet_meaning columns rows size after reads ≡ stored (cabinet_meaning columns rows size bytes reads) c r block
    block_written =
        let with_blocks : (ℕ → ℕ → List ℕ) → Meaning = λ b. record { columns = columns; rows = rows; size = size; answers = λ j. ltb j columns; block = b; tally = λ j. get_or reads j 0 % 2 ^ 32 } in
        ap with_blocks (fun_ext (λ j. fun_ext (λ i. block_set j i)))

-- The same of a cabinet t, whose drawer d of column c becomes e.
module _ (t : Cabinet) (c : ℕ) (hc : c < t.shape.columns) (d : Drawer) (at_c : d ≡ get_or (vec_items t.drawers) c d) where
  abbrev drawers : List Drawer
  drawers = vec_items t.drawers

  abbrev of : List (List ℕ) → List ℕ → Meaning
  of bytes reads = cabinet_meaning t.shape.columns t.shape.rows t.shape.size bytes reads

  inside : c < length drawers
  inside = omega (arith, hc, t.stocked.0)

  its : get_or (held drawers) c [] ≡ vec_items d.bytes
  its = its_bytes drawers c inside d at_c

  full : length (get_or (held drawers) c []) ≡ t.shape.rows * t.shape.size
  full = t.stocked.1 c hc

  module _ (r n : ℕ) (hr : r < t.shape.rows) (e : n ≡ t.shape.size) where
    pub block_fits : r * t.shape.size + n ≤ vec_len d.bytes
    block_fits = omega (arith, e, row_within t.shape.rows t.shape.size r (length (get_or (held drawers) c [])) hr full, ap length its, d.bytes.ok.0)

  module _ (e : Drawer) where
    pub drawer_read : vec_items e.bytes ≡ vec_items d.bytes → e.reads ≡ (d.reads + 1) % 2 ^ 32 → of (held (set drawers c e)) (counts (set drawers c e)) ≡ tallied (cabinet_of t) c
    drawer_read same more =
        let reads : counts (set drawers c e) ≡ set (counts drawers) c ((get_or (counts drawers) c 0 + 1) % 2 ^ 32) =
        counts_set drawers c inside d at_c e ∙ ap (set (counts drawers) c) (more ∙ ap (λ n. (n + 1) % 2 ^ 32) (sym (its_reads drawers c inside d at_c))) in
        ap₂ of (held_same drawers c inside d at_c e same) reads
        ∙ read_counted t.shape.columns t.shape.rows t.shape.size (held drawers) (counts drawers) c (omega (arith, inside, length-map drawers (λ x. x.reads)))

    pub drawer_written : (r : ℕ) (block : List ℕ) → r < t.shape.rows → length block ≡ t.shape.size → vec_items e.bytes ≡ paste (vec_items d.bytes) (r * t.shape.size) block (length block) → e.reads ≡ d.reads → of (held (set drawers c e)) (counts (set drawers c e)) ≡ stored (cabinet_of t) c r block
    drawer_written r block hr size put same =
        let bytes : held (set drawers c e) ≡ set (held drawers) c (paste (get_or (held drawers) c []) (r * t.shape.size) block t.shape.size) =
        held_set drawers c inside d at_c e ∙ ap (set (held drawers) c) (put ∙ ap₂ (λ b n. paste b (r * t.shape.size) block n) (sym its) size) in
        ap₂ of bytes (counts_same drawers c inside d at_c e same)
        ∙ block_written t.shape.columns t.shape.rows t.shape.size (held drawers) (counts drawers) c r block hc (omega (arith, inside, length-map drawers (λ x. vec_items x.bytes))) hr size full

-- A cabinet of fresh drawers is blank.
pub blank_new : (columns rows size : ℕ) → cabinet_meaning columns rows size (replicate columns (replicate (rows * size) 0)) (replicate columns 0) ≡ blank columns rows size
blank_new columns rows size =
    ap₂ (λ b t. record { columns = columns; rows = rows; size = size; answers = λ c. ltb c columns; block = b; tally = t })
    (fun_ext (λ c. fun_ext (λ r.
    ⊎_elim
    (λ (hc : c < columns).
    ⊎_elim
    (λ (hr : r < rows).
    let within = row_within rows size r (rows * size) hr refl in
    simp (lt-ltb c columns hc, lt-ltb r rows hr, get_or-replicate columns c (replicate {A = ℕ} (rows * size) 0) [] hc, drop-replicate {X = ℕ} (r * size) (rows * size) 0)
    (take-replicate size (rows * size - r * size) 0 (omega arith)))
    (λ (hr : rows ≤ r). simp (lt-ltb c columns hc, le-ltb r rows hr))
    (cases_lt r rows))
    (λ (hc : columns ≤ c). simp (le-ltb c columns hc))
    (cases_lt c columns))))
    (fun_ext (λ c. ⊎_elim (λ (hc : c < columns). simp (get_or-replicate {A = ℕ} columns c 0 0 hc)) (λ (hc : columns ≤ c). simp (get_or_past (replicate {A = ℕ} columns 0) c 0 (simp length-replicate hc))) (cases_lt c columns)))
