-- The columns out of service as a set.
use Rattle.std.proofs.Common.{◌≡◌, ℕ, ◌+◌, ◌<◌, Bool, true, false, not, ◌&&◌, ◌||◌, eqb, ◌⊎◌, sym, refl, ap, ◌∙◌, inl, inr, true≢false, arith, eqb-true}
use Rattle.std.proofs.lemmas.Bool.Decides.{nat_tests}
use Rattle.law.specs.Service.{AtMostOne, AtMostTwo}
use Rattle.shelf.specs.declared.roster.missing.Missing.{Missing}
use Rattle.shelf.specs.declared.roster.missing.Missing.TheVariants.{Nothing, One, Two}
use Rattle.shelf.specs.Missing.{is_out, is_full, added, removed, are_columns}

eqb_sym : (a b : ℕ) → eqb a b ≡ eqb b a
eqb_sym a b = grind (arith, nat_tests)

pub at_most_one : (m : Missing) → is_full m ≡ false → AtMostOne (is_out m)
at_most_one Nothing f a b ea eb = absurd (true≢false (sym ea))
at_most_one (One x) f a b ea eb = sym (eqb-true x a ea) ∙ eqb-true x b eb
at_most_one (Two x y) f a b ea eb = absurd (true≢false f)

pub at_most_two : (m : Missing) → AtMostTwo (is_out m)
at_most_two Nothing a b c ea eb ec ab ac = absurd (true≢false (sym ea))
at_most_two (One x) a b c ea eb ec ab ac = sym (eqb-true x b eb) ∙ eqb-true x c ec
at_most_two (Two x y) a b c ea eb ec ab ac = go (either x y a ea) (either x y b eb) (either x y c ec)
  where
    either : (x y c : ℕ) → eqb x c || eqb y c ≡ true → (x ≡ c) ⊎ (y ≡ c)
    either x y c e = which (eqb x c) refl e
      where
        which : (s : Bool) → eqb x c ≡ s → s || eqb y c ≡ true → (x ≡ c) ⊎ (y ≡ c)
        which true p q = inl (eqb-true x c p)
        which false p q = inr (eqb-true y c q)

    go : (x ≡ a) ⊎ (y ≡ a) → (x ≡ b) ⊎ (y ≡ b) → (x ≡ c) ⊎ (y ≡ c) → b ≡ c
    go p (inl q) (inl r) = sym q ∙ r
    go p (inr q) (inr r) = sym q ∙ r
    go (inl p) (inl q) (inr r) = absurd (ab (sym p ∙ q))
    go (inr p) (inl q) (inr r) = absurd (ac (sym p ∙ r))
    go (inl p) (inr q) (inl r) = absurd (ac (sym p ∙ r))
    go (inr p) (inr q) (inl r) = absurd (ab (sym p ∙ q))

-- one more column out
pub added_out : (m : Missing) (c x : ℕ) → is_full m ≡ false → is_out (added m c) x ≡ (is_out m x || eqb x c)
added_out Nothing c x f = eqb_sym c x
added_out (One a) c x f = ap (λ t. eqb a x || t) (eqb_sym c x)
added_out (Two a b) c x f = absurd (true≢false f)

-- one column fewer
pub removed_out : (width : ℕ) (m : Missing) (c x : ℕ) → are_columns width m ≡ true → is_out (removed m c) x ≡ (is_out m x && not (eqb x c))
removed_out width Nothing c x k = refl
removed_out width (One a) c x k = grind (arith, nat_tests)
removed_out width (Two a b) c x k = grind (arith, nat_tests)

-- all columns out are columns of the shelf
pub out_is_column : (width : ℕ) (m : Missing) (c : ℕ) → are_columns width m ≡ true → is_out m c ≡ true → c < width + 2
out_is_column width Nothing c k e = absurd (true≢false (sym e))
out_is_column width (One a) c k e = grind (arith, nat_tests)
out_is_column width (Two a b) c k e = grind (arith, nat_tests)
