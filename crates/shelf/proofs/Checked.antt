-- What the checks of a call tell of its tray.
use Rattle.std.proofs.Common.{◌≡◌, ℕ, zero, suc, ◌+◌, ◌*◌, ◌<◌, ◌≤◌, Bool, true, false, cond, ◌||◌, Some, None, Ok, Option, MatchOption, sym, refl, ap, ◌∙◌, ⊎_elim, true≢false, arith}
use native.Mathlib.Decide.{ℕ_discrete}
use Rattle.std.proofs.lemmas.Bool.{cases_eq, cases_Bool}
use Rattle.std.proofs.lemmas.Bool.Decides.{nat_tests}
use Rattle.tray.specs.Meaning.{Meaning}
use Rattle.code.specs.Code.{rows}
use Rattle.law.specs.Holding.{Shaped}
use Rattle.shelf.specs.declared.roster.missing.Missing.{Missing}
use Rattle.shelf.specs.declared.roster.missing.Missing.TheVariants.{Nothing, One, Two}
use Rattle.shelf.specs.Missing.{is_out, is_empty, removed}
use Rattle.shelf.specs.Rosters.{Rostered, out_of}
use Rattle.shelf.specs.Checks.{is_shaped, silent_from, unless_silent, hearing, laying, reaching, rebuilding, sweeping}
use Rattle.shelf.specs.Blocks.{Ready}

-- ---- the lowest silent column

-- the first of the n columns from c to e that is neither out nor answers
pub first_silent : (out : Missing) (answers : ℕ → Bool) (c n e : ℕ) → e ≡ c + n → (r : Option ℕ)
    → MatchOption r ((k : ℕ) → c ≤ k → k < e → (is_out out k || answers k) ≡ true)
    (λ i. (c ≤ i) × (i < e) × ((is_out out i || answers i) ≡ false) × ((k : ℕ) → c ≤ k → k < i → (is_out out k || answers k) ≡ true))
    → r ≡ silent_from out answers c n
first_silent out answers c zero e s None h = refl
first_silent out answers c zero e s (Some i) h = absurd (omega (arith, h.0, h.1))
first_silent out answers c (suc n) e s None h =
    first_silent out answers (c + 1) n e (omega arith) None (λ k a b. h k (omega arith) b)
    ∙ ap (λ t. cond t (silent_from out answers (c + 1) n) (Some c)) (sym (h c (omega arith) (omega arith)))
first_silent out answers c (suc n) e s (Some i) h =
    elim (ℕ_discrete i c) [
      | yes is ↦ ap Some is ∙ ap (λ t. cond t (silent_from out answers (c + 1) n) (Some c)) (sym (ap (λ k. is_out out k || answers k) (sym is) ∙ h.2))
      | no d ↦
          first_silent out answers (c + 1) n e (omega arith) (Some i) (omega (arith, h.0), h.1, h.2, λ k a b. h.3 k (omega arith) b)
          ∙ ap (λ t. cond t (silent_from out answers (c + 1) n) (Some c)) (sym (h.3 c (omega arith) (omega (arith, h.0))))
    ]

silent_none : (out : Missing) (answers : ℕ → Bool) (i n : ℕ) → silent_from out answers i n ≡ None → (c : ℕ) → i ≤ c → c < i + n → (is_out out c || answers c) ≡ true
silent_none out answers i zero e c l h = absurd (omega arith)
silent_none out answers i (suc n) e c l h =
    ⊎_elim
    (λ t. let e' : silent_from out answers (i + 1) n ≡ None = rw t at e in
    ⊎_elim (λ q. rw q t) (λ q. silent_none out answers (i + 1) n e' c (omega arith) (omega arith)) (cases_eq c i))
    (λ t. let z : ◌≡◌ {A = ℕ} 0 1 = (let e' = rw t at e in cc) in absurd (omega arith))
    (cases_Bool (is_out out i || answers i))

unless_none : (o : Option ℕ) → unless_silent o ≡ Ok tt → o ≡ None
unless_none None e = refl
unless_none (Some c) e = absurd (let z : ◌≡◌ {A = ℕ} 0 1 = cc in omega arith)

-- every column not out answers
pub heard : (out : Missing) (r : Rostered) (m : Meaning) → hearing out r m ≡ Ok tt → (c : ℕ) → c < r.width + 2 → is_out out c ≡ false → m.answers c ≡ true
heard out r m e c l o =
    let a = silent_none out m.answers 0 (r.width + 2) (unless_none (silent_from out m.answers 0 (r.width + 2)) e) c (omega arith) (omega arith) in
    sym (ap (λ t. t || m.answers c) o) ∙ a

-- ---- what an accepted call knows

pub is_shaped-kept : (r : Rostered) (m : Meaning) → is_shaped r m ≡ true → Shaped r.width r.size m
is_shaped-kept r m e = record { wide = grind (arith, nat_tests); tall = grind (arith, nat_tests); deep = grind (arith, nat_tests) }

-- the tray has the shelf's shape, and every column not in `out` answers
pub record Sound (out : Missing) (r : Rostered) (m : Meaning) : Type 0 where
  pub shape : Shaped r.width r.size m
  pub heard : (c : ℕ) → c < r.width + 2 → is_out out c ≡ false → m.answers c ≡ true

-- so its places can be read and written
pub sound_ready : (out : Missing) (r : Rostered) (m : Meaning) → Sound out r m → (c i : ℕ) → c < r.width + 2 → is_out out c ≡ false → i < rows r.width
    → Ready m c i r.size
sound_ready out r m h c i cl o il =
    record {
      column = omega (arith, h.shape.wide);
      row = omega (arith, h.shape.tall);
      long = sym h.shape.deep;
      answers = h.heard c cl o;
    }

sound : (out : Missing) (r : Rostered) (m : Meaning) → is_shaped r m ≡ true → hearing out r m ≡ Ok tt → Sound out r m
sound out r m s e = record { shape = is_shaped-kept r m s; heard = heard out r m e }

pub laid_sound : (r : Rostered) (m : Meaning) → laying r m ≡ Ok tt → Sound Nothing r m
laid_sound r m e = sound Nothing r m (grind (arith, nat_tests)) (grind (arith, nat_tests))

pub record Reached (r : Rostered) (m : Meaning) (c i n w : ℕ) : Type 0 where
  pub sound : Sound r.missing r m
  pub column : c < r.width
  pub row : i < rows r.width
  pub long : n ≡ r.size
  pub room : 2 * rows r.width * r.size ≤ w

pub reached : (r : Rostered) (m : Meaning) (c i n w : ℕ) → reaching r m c i n w ≡ Ok tt → Reached r m c i n w
reached r m c i n w e =
    record {
      sound = sound r.missing r m (grind (arith, nat_tests)) (grind (arith, nat_tests));
      column = grind (arith, nat_tests);
      row = grind (arith, nat_tests);
      long = grind (arith, nat_tests);
      room = grind (arith, nat_tests);
    }

pub record Rebuildable (r : Rostered) (m : Meaning) (c w : ℕ) : Type 0 where
  pub sound : Sound (removed r.missing c) r m
  pub column : c < r.width + 2
  pub was_out : out_of r c ≡ true
  pub room : 2 * rows r.width * r.size ≤ w

pub rebuildable : (r : Rostered) (m : Meaning) (c w : ℕ) → rebuilding r m c w ≡ Ok tt → Rebuildable r m c w
rebuildable r m c w e =
    record {
      sound = sound (removed r.missing c) r m (grind (arith, nat_tests)) (grind (arith, nat_tests));
      column = grind (arith, nat_tests);
      was_out = grind (arith, nat_tests);
      room = grind (arith, nat_tests);
    }

pub record Sweepable (r : Rostered) (m : Meaning) (w : ℕ) : Type 0 where
  pub sound : Sound Nothing r m
  pub all_in : (c : ℕ) → out_of r c ≡ false
  pub room : 2 * rows r.width * r.size ≤ w

none_out : (out : Missing) → is_empty out ≡ true → (c : ℕ) → is_out out c ≡ false
none_out Nothing e c = refl
none_out (One a) e c = absurd (true≢false (sym e))
none_out (Two a b) e c = absurd (true≢false (sym e))

pub sweepable : (r : Rostered) (m : Meaning) (w : ℕ) → sweeping r m w ≡ Ok tt → Sweepable r m w
sweepable r m w e =
    record {
      sound = sound Nothing r m (grind (arith, nat_tests)) (grind (arith, nat_tests));
      all_in = none_out r.missing (grind (arith, nat_tests));
      room = grind (arith, nat_tests);
    }
