-- Small facts on tests, and on columns out.
use Rattle.std.proofs.Common.{◌≡◌, ℕ, zero, suc, ◌<◌, Bool, true, false, not, ◌&&◌, ◌||◌, eqb, ◌≢◌, ◌⊎◌, sym, refl, ap, ◌∙◌, inl, inr, true≢false, arith, eqb-true}
use native.Mathlib.Decide.{ℕ_discrete}
use borrow.Author.Tests.{eq-true, ne_false}
use Rattle.law.specs.Service.{Columns, added, removed, AtMostOne, AtMostTwo}

pub not_so : (b : Bool) → (b ≡ true → ⊥) → b ≡ false
not_so true h = absurd (h refl)
not_so false h = refl

pub both_true : (a b : Bool) → a && b ≡ true → (a ≡ true) × (b ≡ true)
both_true true b e = (refl, e)
both_true false b e = absurd (true≢false (sym e))

pub or_left : (a b : Bool) → a || b ≡ false → a ≡ false
or_left true b e = e
or_left false b e = refl

-- another column below n is out, or none is
pub find : (n : ℕ) (out : Columns) (j : ℕ)
    → ((q : ℕ) × (q < n) × (q ≢ j) × (out q ≡ true)) ⊎ ((c : ℕ) → c < n → c ≢ j → out c ≡ false)
find zero out j = inr (λ c l. absurd (omega arith))
find (suc n) out j = go (find n out j) (ℕ_discrete n j) (out n) refl
  where
    go : ((q : ℕ) × (q < n) × (q ≢ j) × (out q ≡ true)) ⊎ ((c : ℕ) → c < n → c ≢ j → out c ≡ false)
        → Dec (n ≡ j) → (b : Bool) → out n ≡ b
        → ((q : ℕ) × (q < suc n) × (q ≢ j) × (out q ≡ true)) ⊎ ((c : ℕ) → c < suc n → c ≢ j → out c ≡ false)
    go (inl h) d b e = inl (h.0, omega (arith, h.1), h.2, h.3)
    go (inr h) (yes y) b e = inr (λ c l ne. h c (omega arith) ne)
    go (inr h) (no ne) true e = inl (n, omega arith, ne, e)
    go (inr h) (no ne) false e =
        inr (λ c l ne'. elim (ℕ_discrete c n) [ yes y ↦ ap out y ∙ e | no m ↦ h c (omega arith) ne' ])

-- a column of a set with one more
pub in_added : (out : Columns) (c x : ℕ) → added out c x ≡ true → (out x ≡ true) ⊎ (x ≡ c)
in_added out c x = go (out x) refl
  where
    go : (b : Bool) → out x ≡ b → b || eqb x c ≡ true → (out x ≡ true) ⊎ (x ≡ c)
    go true e h = inl e
    go false e h = inr (eqb-true x c h)

pub two_added : (out out' : Columns) (c : ℕ) → AtMostOne out → ((x : ℕ) → out' x ≡ added out c x) → AtMostTwo out'
two_added out out' c one after a b d ha hb hd a≢b a≢d =
    go (in_added out c a (sym (after a) ∙ ha)) (in_added out c b (sym (after b) ∙ hb)) (in_added out c d (sym (after d) ∙ hd))
  where
    go : (out a ≡ true) ⊎ (a ≡ c) → (out b ≡ true) ⊎ (b ≡ c) → (out d ≡ true) ⊎ (d ≡ c) → b ≡ d
    go (inl p) (inl q) r = absurd (a≢b (one a b p q))
    go (inl p) (inr q) (inl r) = absurd (a≢d (one a d p r))
    go (inl p) (inr q) (inr r) = q ∙ sym r
    go (inr p) (inl q) (inl r) = one b d q r
    go (inr p) (inl q) (inr r) = absurd (a≢d (p ∙ sym r))
    go (inr p) (inr q) r = absurd (a≢b (p ∙ sym q))

-- a set with one column fewer
pub removed_other : (out : Columns) (c x : ℕ) → x ≢ c → removed out c x ≡ out x
removed_other out c x n = ap (λ t. out x && not t) (sym (ne_false x c n)) ∙ and_true (out x)
  where
    and_true : (b : Bool) → b && true ≡ b
    and_true true = refl
    and_true false = refl

pub removed_own : (out : Columns) (c : ℕ) → removed out c c ≡ false
removed_own out c = ap (λ t. out c && not t) (sym (eq-true c c refl)) ∙ and_false (out c)
  where
    and_false : (b : Bool) → b && false ≡ false
    and_false true = refl
    and_false false = refl

pub removed_in : (out : Columns) (c x : ℕ) → removed out c x ≡ true → out x ≡ true
removed_in out c x h = (both_true (out x) (not (eqb x c)) h).0
