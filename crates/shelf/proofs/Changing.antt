-- Blocks of a tray that a change is added to.
use Rattle.std.proofs.Common.{◌≡◌, ℕ, ◌+◌, ◌<◌, Bool, true, false, cond, ◌&&◌, ◌||◌, eqb, List, get_or, sym, refl, ap, ◌∙◌, ap₂, true≢false, add-one, arith, eqb-true}
use lib.Bits.{bit_xor}
use borrow.Author.Tests.{ne_false}
use Rattle.std.proofs.lemmas.Bool.Decides.{nat_tests}
use Rattle.tray.specs.Meaning.{Meaning, tallied, stored}
use Rattle.code.specs.Numbers.{any}
use Rattle.code.specs.Code.{Rule, rows, meets}
use Rattle.code.specs.Lines.{takes, holds}
use Rattle.code.proofs.Put.{any_none, one_column}
use Rattle.code.proofs.Listed.{any_same, turned}
use Rattle.law.specs.Service.{Columns}
use Rattle.law.specs.Holding.{held, SameFrame}
use Rattle.shelf.specs.Blocks.{Ready}
use Rattle.shelf.specs.Reading.{Answers, Heard}
use Rattle.shelf.specs.Regaining.{BytesAdded}
use Rattle.shelf.specs.Parities.{Places, AddedAt, only_at, line_by, lines_below, line_places}
use Rattle.shelf.proofs.Limits.{first, second}
use Rattle.shelf.proofs.Frames.{frame_none, frame_twice, frame_read, frame_written}

and_false : (b : Bool) → b && false ≡ false
and_false true = refl
and_false false = refl

and_true : (b : Bool) → b && true ≡ b
and_true true = refl
and_true false = refl

clash : {P : Type 0} (b : Bool) → b ≡ true → b ≡ false → P
clash b t f = absurd (true≢false (sym t ∙ f))

module _ (size : ℕ) (m : Meaning) (x : List ℕ) where
  pub added_none : (f : Places) → ((c r : ℕ) → f c r ≡ false) → AddedAt size m x f m
  added_none f none = record { plus = λ c r b e _. clash (f c r) e (none c r); rest = λ _ _ _. refl; frame = frame_none m }

  pub added_same : (f g : Places) (m' : Meaning) → ((c r : ℕ) → g c r ≡ f c r) → AddedAt size m x f m' → AddedAt size m x g m'
  added_same f g m' same h =
      record { plus = λ c r b e bl. h.plus c r b (sym (same c r) ∙ e) bl; rest = λ c r e. h.rest c r (sym (same c r) ∙ e); frame = h.frame }

  -- added at some places, and then at others
  pub added_added : (f g : Places) (m' m'' : Meaning) → ((c r : ℕ) → g c r ≡ true → f c r ≡ false) → AddedAt size m x f m' → AddedAt size m' x g m''
      → AddedAt size m x (λ c r. f c r || g c r) m''
  added_added f g m' m'' apart h k =
      record {
        plus = λ c r b e bl. go c r b bl (f c r) (g c r) refl refl e;
        rest = λ c r e. k.rest c r (right (f c r) (g c r) e) ∙ h.rest c r (left (f c r) (g c r) e);
        frame = frame_twice m m' m'' h.frame k.frame;
      }
    where
      left : (a b : Bool) → a || b ≡ false → a ≡ false
      left true b e = e
      left false b e = refl

      right : (a b : Bool) → a || b ≡ false → b ≡ false
      right true b e = absurd (true≢false e)
      right false b e = e

      go : (c r b : ℕ) → b < size → (s t : Bool) → f c r ≡ s → g c r ≡ t → s || t ≡ true → held m'' b r c ≡ bit_xor (held m b r c) (get_or x b 0)
      go c r b bl s true ef eg e = k.plus c r b eg bl ∙ ap (λ l. bit_xor (get_or l b 0) (get_or x b 0)) (h.rest c r (apart c r eg))
      go c r b bl true false ef eg e = ap (λ l. get_or l b 0) (k.rest c r eg) ∙ h.plus c r b ef bl
      go c r b bl false false ef eg e = absurd (true≢false (sym e))

  -- a block read, changed and written back
  pub added_back : (c i : ℕ) (m' m'' : Meaning) (after : List ℕ) → m' ≡ tallied m c → BytesAdded size (m.block c i) (λ b. get_or x b 0) after → m'' ≡ stored m' c i after
      → AddedAt size m x (only_at c i) m''
  added_back c i m' m'' after read changed written =
      record {
        plus = λ d r b e bl.
            ap (λ l. get_or l b 0) (now d r ∙ ap (λ s. cond s after (m.block d r)) (flip d r ∙ e)) ∙ changed b bl
            ∙ ap₂ (λ d r. bit_xor (held m b r d) (get_or x b 0)) (eqb-true c d (first (eqb c d) (eqb i r) e)) (eqb-true i r (second (eqb c d) (eqb i r) e));
        rest = λ d r e. now d r ∙ ap (λ s. cond s after (m.block d r)) (flip d r ∙ e);
        frame = frame_written m m' m'' c i after (frame_read m m m' c (frame_none m) read) written;
      }
    where
      now : (d r : ℕ) → m''.block d r ≡ cond (eqb d c && eqb r i) after (m.block d r)
      now d r = ap (λ t. t.block d r) written ∙ ap (λ t. cond (eqb d c && eqb r i) after (t.block d r)) read

      flip : (d r : ℕ) → eqb d c && eqb r i ≡ eqb c d && eqb i r
      flip d r = grind (arith, nat_tests)

-- ---- the lines that hold a place, column by column

module _ (k : ℕ) (right : Rule) (i j : ℕ) where
  pub below_none : (c r : ℕ) → lines_below k right i j 0 c r ≡ false
  unfolding any
  below_none c r = and_false (eqb (k + 1) c)

  pub below_more : (t c r : ℕ) → lines_below k right i j (t + 1) c r ≡ lines_below k right i j t c r || line_by k right i j t c r
  unfolding any
  below_more t c r =
      ap (λ n. eqb (k + 1) c && any n (λ s. eqb (meets i s) r && takes right i s j)) (add-one t)
      ∙ spread (eqb (k + 1) c) (any t (λ s. eqb (meets i s) r && takes right i s j)) (eqb (meets i t) r && takes right i t j)
    where
      spread : (a b c : Bool) → a && (b || c) ≡ (a && b) || (a && c)
      spread true b c = refl
      spread false b c = refl

  -- no line is met twice: it meets no two columns in one row
  pub below_apart : (t c r : ℕ) → line_by k right i j t c r ≡ true → lines_below k right i j t c r ≡ false
  below_apart t c r e =
      ap (λ b. eqb (k + 1) c && b) (any_none t (λ s. eqb (meets i s) r && takes right i s j) other) ∙ and_false (eqb (k + 1) c)
    where
      here : meets i t ≡ r
      here = eqb-true (meets i t) r (first (eqb (meets i t) r) (takes right i t j) (second (eqb (k + 1) c) (eqb (meets i t) r && takes right i t j) e))

      other : (s : ℕ) → s < t → eqb (meets i s) r && takes right i s j ≡ false
      other s l =
          ap (λ b. b && takes right i s j)
          (sym (ne_false (meets i s) r (λ q. let same = one_column i s t (q ∙ sym here) in omega arith)))

  pub below_all : (c r : ℕ) → line_places k right i j c r ≡ lines_below k right i j k c r
  unfolding holds
  below_all c r =
      ap (λ b. eqb (k + 1) c && b)
      (any_same k (λ t. eqb (meets r t) i && takes right i t j) (λ t. eqb (meets i t) r && takes right i t j) (λ t. ap (λ b. b && takes right i t j) (turned r i t)))

-- ---- the parities in service

-- columns in service go on to answer
pub heard_still : (k size : ℕ) (out : Columns) (m m' : Meaning) → SameFrame m m' → Heard k size out m → Heard k size out m'
heard_still k size out m m' f h =
    record {
      shape = record { wide = f.shape.wide ∙ h.shape.wide; tall = f.shape.tall ∙ h.shape.tall; deep = f.shape.deep ∙ h.shape.deep };
      answers = λ c l o. ap (λ g. g c) f.answers ∙ h.answers c l o;
    }

pub answers_ready : (k size : ℕ) (m : Meaning) (c i : ℕ) → Answers k size m c → i < rows k → Ready m c i size
answers_ready k size m c i a l =
    record { column = omega (arith, a.shape.wide, a.column); row = omega (arith, a.shape.tall); long = sym a.shape.deep; answers = a.flag }
