-- The parity places one after another.
use Rattle.std.proofs.Common.{◌≡◌, ℕ, ◌+◌, ◌-◌, ◌*◌, ◌<◌, ◌≤◌, true, false, cond, ◌&&◌, ltb, ◌≢◌, List, get_or, Some, None, Ok, Option, sym, refl, ap, ◌∙◌, subst, ap₂, ⊎_elim, arith}
use native.Mathlib.Decide.{ℕ_discrete, dec_lt}
use lib.Bits.{bit_xor}
use borrow.Author.Tests.{lt-true, le-false}
use Rattle.tray.specs.Meaning.{Meaning}
use Rattle.code.specs.Code.{Rule, rows, horizontal, butterfly, value}
use Rattle.code.specs.Neighbours.{published}
use Rattle.code.proofs.Put.{any_none}
use Rattle.code.proofs.Xor.{only_true, only_false}
use Rattle.code.proofs.Linear.{value_horizontal, value_butterfly, horizontal_same, butterfly_same}
use Rattle.law.specs.Holding.{held, Calm}
use Rattle.law.specs.Calls.{PlaceFits, Earlier, Finding, Swept}
use Rattle.shelf.specs.declared.roster.missing.Missing.TheVariants.{Nothing}
use Rattle.shelf.specs.Missing.{is_out}
use Rattle.shelf.specs.Rosters.{Rostered, out_of}
use Rattle.shelf.specs.Checks.{sweeping}
use Rattle.shelf.specs.Slots.{slot}
use Rattle.shelf.specs.Blocks.{Ready}
use Rattle.shelf.specs.Reading.{Heard, Gathered, after_reads, parity_read, served}
use Rattle.shelf.specs.Sweeping.{parity_place, Sums, Agrees, FirstOff, Compared}
use Rattle.shelf.proofs.Checked.{sweepable}

-- ---- the place of a slot

pub place_row : (k s : ℕ) → s < rows k → parity_place k s ≡ (k, s)
unfolding parity_place
place_row k s l = ap (λ t. cond {A = ℕ × ℕ} t (k, s) (k + 1, s - rows k)) (sym (lt-true s (rows k) l))

pub place_line : (k s : ℕ) → rows k ≤ s → parity_place k s ≡ (k + 1, s - rows k)
unfolding parity_place
place_line k s l = ap (λ t. cond {A = ℕ × ℕ} t (k, s) (k + 1, s - rows k)) (sym (le-false s (rows k) l))

-- it is a place of a parity column
pub record IsPlace (k : ℕ) (p : ℕ × ℕ) : Type 0 where
  pub parity : k ≤ p.0
  pub column : p.0 < k + 2
  pub row : p.1 < rows k

pub is_place-parity : (k s : ℕ) → s < rows k + rows k → IsPlace k (parity_place k s)
is_place-parity k s l =
    elim (dec_lt s (rows k)) [
      | yes y ↦ subst (IsPlace k) (sym (place_row k s y)) (record { parity = omega arith; column = omega arith; row = y })
      | no n ↦ subst (IsPlace k) (sym (place_line k s (omega arith))) (record { parity = omega arith; column = omega arith; row = omega arith })
    ]

-- so it can be read, also after other reads
pub place_ready : (k size : ℕ) (m m' : Meaning) → Heard k size (is_out Nothing) m → Calm m m' → (s : ℕ) → s < rows k + rows k
    → (p : ℕ × ℕ) → p ≡ parity_place k s → (len : ℕ) → len ≡ size → Ready m' p.0 p.1 len
place_ready k size m m' heard calm s l p e len same =
    let q = subst (IsPlace k) (sym e) (is_place-parity k s l) in
    record {
      column = omega (arith, calm.frame.shape.wide, heard.shape.wide, q.column);
      row = omega (arith, calm.frame.shape.tall, heard.shape.tall, q.row);
      long = omega (arith, calm.frame.shape.deep, heard.shape.deep);
      answers = ap (λ f. f p.0) calm.frame.answers ∙ heard.answers p.0 q.column refl;
    }

-- ---- a place that was read

module _ (k size : ℕ) (m m' : Meaning) (work block : List ℕ) (s : ℕ) (p : ℕ × ℕ) (e : p ≡ parity_place k s)
    (calm : Calm m m') (read : block ≡ m'.block p.0 p.1) where
  byte : (b : ℕ) → held m b (parity_place k s).1 (parity_place k s).0 ≡ get_or block b 0
  byte b =
      ap (λ q. get_or (m.block q.0 q.1) b 0) (sym e)
      ∙ ap (λ f. get_or (f p.0 p.1) b 0) (sym calm.block)
      ∙ ap (λ x. get_or x b 0) (sym read)

  pub agreed : ((b : ℕ) → b < size → get_or block b 0 ≡ get_or work (s * size + b) 0) → Agrees k size m work s
  unfolding slot
  agreed h b l = byte b ∙ h b l

  pub first_off : (b : ℕ) → b < size → (get_or block b 0 ≡ get_or work (s * size + b) 0 → ⊥) → s < rows k + rows k
      → ((t : ℕ) → t < s → Agrees k size m work t) → FirstOff k size m work p
  unfolding slot
  first_off b l ne within before =
      record { s = s; within = within; place = e; off = λ a. ne (sym (byte b) ∙ a b l); before = before }

-- ---- the sums of all data

module _ (k : ℕ) (right : Rule) (size : ℕ) (m : Meaning) (work : List ℕ) where
  -- nothing is out, so the data are summed and no parity is
  pub sums_of_all : Gathered k right size (is_out Nothing) m work → Sums k right size m work
  sums_of_all h s b l bl =
      elim (dec_lt s (rows k)) [
        | yes y ↦
            h.row b s bl y
            ∙ ap (λ x. bit_xor x (horizontal k (served (is_out Nothing) k (held m b)) s)) (only_false (parity_read k (is_out Nothing) k) (held m b s k) unread)
            ∙ horizontal_same k right (served (is_out Nothing) k (held m b)) (held m b) (λ i j _ jk. all b i j jk) s y
            ∙ sym (value_horizontal k right (held m b) s)
            ∙ ap (λ p. value k right (held m b) p.0 p.1) (sym (place_row k s y))
        | no n ↦
            ap (λ t. slot size work t b) (behind s (omega arith))
            ∙ h.line b (s - rows k) bl (omega arith)
            ∙ ap (λ x. bit_xor x (butterfly k right (served (is_out Nothing) k (held m b)) (s - rows k)))
            (only_false (parity_read k (is_out Nothing) (k + 1)) (held m b (s - rows k) (k + 1)) unread)
            ∙ butterfly_same k right (served (is_out Nothing) k (held m b)) (held m b) (λ i j _ jk. all b i j jk) (s - rows k) (omega arith)
            ∙ sym (value_butterfly k right (held m b) (s - rows k))
            ∙ ap (λ p. value k right (held m b) p.0 p.1) (sym (place_line k s (omega arith)))
      ]
    where
      unread : parity_read k (is_out Nothing) k ≡ false
      unread = ap (λ t. t && true) (any_none k (is_out Nothing) (λ _ _. refl))

      all : (b i j : ℕ) → j < k → served (is_out Nothing) k (held m b) i j ≡ held m b i j
      all b i j jk = only_true (ltb j k) (held m b i j) (sym (lt-true j k jk))

      behind : (s : ℕ) → rows k ≤ s → s ≡ rows k + (s - rows k)
      behind s l = omega arith

-- so a place agrees with its slot just where it fits, also on a tray that was read meanwhile
module _ (k : ℕ) (right : Rule) (size : ℕ) (m m' : Meaning) (work : List ℕ) (sums : Sums k right size m work) (same : m'.block ≡ m.block) where
  module _ (s : ℕ) (l : s < rows k + rows k) where
    unread : (b : ℕ) → held m b (parity_place k s).1 (parity_place k s).0 ≡ held m' b (parity_place k s).1 (parity_place k s).0
    unread b = ap (λ f. get_or (f (parity_place k s).0 (parity_place k s).1) b 0) (sym same)

    agrees_fits : Agrees k size m' work s → PlaceFits k right size m (parity_place k s).0 (parity_place k s).1
    agrees_fits h b bl = unread b ∙ h b bl ∙ sums s b l bl

    fits_agrees : PlaceFits k right size m (parity_place k s).0 (parity_place k s).1 → Agrees k size m' work s
    fits_agrees h b bl = sym (unread b) ∙ h b bl ∙ sym (sums s b l bl)

-- every parity place has a slot, and earlier ones have lower slots
pub record SlotAt (k c r : ℕ) : Type 0 where
  pub t : ℕ
  pub within : t < rows k + rows k
  pub place : parity_place k t ≡ (c, r)
  pub lower : (s : ℕ) → Earlier c r (parity_place k s) → t < s

slot_at : (k c r : ℕ) → k ≤ c → c < k + 2 → r < rows k → SlotAt k c r
slot_at k c r low high l =
    elim (ℕ_discrete c k) [
      | yes e ↦ record {
        t = r;
        within = omega arith;
        place = place_row k r l ∙ ap (λ (x : ℕ). (x, r)) (sym e);
        lower = λ s h.
            elim (dec_lt s (rows k)) [
              | yes y ↦ ⊎_elim (λ a. absurd (omega arith)) (λ a. a.1) (subst (Earlier c r) (place_row k s y) h)
              | no n ↦ omega arith
            ];
      }
      | no d ↦ record {
        t = rows k + r;
        within = omega arith;
        place = place_line k (rows k + r) (omega arith) ∙ there d;
        lower = λ s h.
            elim (dec_lt s (rows k)) [
              | yes y ↦ ⊎_elim (λ a. absurd (omega arith)) (λ a. absurd (omega (arith, a.0))) (subst (Earlier c r) (place_row k s y) h)
              | no n ↦ ⊎_elim (λ a. absurd (omega arith)) (λ a. omega (arith, a.1)) (subst (Earlier c r) (place_line k s (omega arith)) h)
            ];
      }
    ]
  where
    there : c ≢ k → ◌≡◌ {A = ℕ × ℕ} (k + 1, rows k + r - rows k) (c, r)
    there d = ap₂ (λ (x y : ℕ). (x, y)) (omega arith) (back (rows k) r)
      where
        back : (a b : ℕ) → a + b - a ≡ b
        back a b = omega arith

module _ (k : ℕ) (right : Rule) (size : ℕ) (m m' : Meaning) (work : List ℕ) (sums : Sums k right size m work) (same : m'.block ≡ m.block) where
  pub finding : (found : Option (ℕ × ℕ)) → Compared k size m' work found → Finding k right size m found
  finding None h = λ c r low high l. let a = slot_at k c r low high l in fits c r a (h a.t a.within)
    where
      fits : (c r : ℕ) (a : SlotAt k c r) → Agrees k size m' work a.t → PlaceFits k right size m c r
      fits c r a h = subst (λ p. PlaceFits k right size m p.0 p.1) a.place (agrees_fits k right size m m' work sums same a.t a.within h)
  finding (Some p) h =
      let q = subst (IsPlace k) (sym h.place) (is_place-parity k h.s h.within) in
      record {
        parity = q.parity;
        column = q.column;
        row = q.row;
        misfit = λ f.
            h.off
            (fits_agrees k right size m m' work sums same h.s h.within (subst (λ p. PlaceFits k right size m p.0 p.1) h.place f));
        before = λ c r low high l earlier.
            let a = slot_at k c r low high l in
            subst (λ p. PlaceFits k right size m p.0 p.1) a.place
            (agrees_fits k right size m m' work sums same a.t a.within (h.before a.t (a.lower h.s (subst (Earlier c r) h.place earlier))));
      }

-- reads before leave nothing but tallies too
pub calm_reads : (m m' m'' : Meaning) (f : ℕ → ℕ) → m' ≡ after_reads m f → Calm m' m'' → Calm m m''
calm_reads m m' m'' f e h =
    let q = subst (λ x. Calm x m'') e h in
    record {
      frame = record {
        shape = record { wide = q.frame.shape.wide; tall = q.frame.shape.tall; deep = q.frame.shape.deep };
        answers = q.frame.answers;
      };
      block = q.block;
    }

-- ---- an accepted sweep

module _ (r : Rostered) (m : Meaning) where
  -- what its checks tell
  pub sweep_ready : (w : ℕ) → sweeping r m w ≡ Ok tt → (k : ℕ) → k ≡ r.width → (size : ℕ) → size ≡ r.size → Heard k size (is_out Nothing) m
  sweep_ready w ok k ke size se = rw (ke, se) (let h = sweepable r m w ok in record { shape = h.sound.shape; answers = h.sound.heard })

  -- and what it does
  pub swept : (w : ℕ) → sweeping r m w ≡ Ok tt → (m' : Meaning) (found : Option (ℕ × ℕ))
      → (k : ℕ) → k ≡ r.width → (size : ℕ) → size ≡ r.size → Calm m m' → Finding k (published k) size m found
      → Swept r.width (published r.width) r.size (out_of r) m found m'
  swept w ok m' found k ke size se calm h =
      record { all_in = λ c _. (sweepable r m w ok).all_in c; finding = rw (ke, se) at h; calm = calm }
