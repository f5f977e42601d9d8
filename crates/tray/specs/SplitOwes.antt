-- What a split tray owes as a tray, from what its halves owe.
use Rattle.std.proofs.Common.{sym, ◌∙◌, ⊎_elim, arith}
use Rattle.std.specs.Prelude.{◌-◌, ◌^◌, ◌<◌, nat_lt}
use Rattle.std.proofs.lemmas.Bool.{cases_lt, lt-ltb, le-ltb, eqb-true, and_parts, cond_both}
use Rattle.tray.specs.Meaning.{Meaning, Sized, Wraps, empty}
use Rattle.tray.specs.SplitTrays.{beside, matching, split_of}

pub split_sized : (l r : Meaning) → Sized l → Sized r → Sized (split_of l r)
split_sized l r hl hr =
    cond_both (matching l r) (beside l r) empty Sized
    (λ e c i hc hi.
    let p = and_parts _ _ e in
    let q = and_parts _ _ p.1 in
    let rows = eqb-true l.rows r.rows p.0 in
    let size = eqb-true l.size r.size q.0 in
    ⊎_elim
    (λ k. simp (lt-ltb c l.columns k) (hl c i k hi))
    (λ k. simp (le-ltb c l.columns k) (hr (c - l.columns) i (omega arith) (omega arith) ∙ sym size))
    (cases_lt c l.columns))
    (λ _ c i hc hi. absurd (omega arith))

pub split_wraps : (l r : Meaning) → Wraps l → Wraps r → Wraps (split_of l r)
split_wraps l r hl hr =
    cond_both (matching l r) (beside l r) empty Wraps
    (λ _ c. cond_both (nat_lt c l.columns) (l.tally c) (r.tally (c - l.columns)) (λ n. n < 2 ^ 32) (λ _. hl c) (λ _. hr (c - l.columns)))
    (λ _ c. omega arith)
