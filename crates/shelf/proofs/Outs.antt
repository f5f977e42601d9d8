-- Whether one of the data columns is out.
use Rattle.std.proofs.Common.{◌≡◌, ℕ, zero, suc, Bool, true, false, ◌||◌, eqb, ltb, refl, ap, ◌∙◌, ap₂, arith}
use borrow.Author.Tests.{le-false}
use Rattle.std.proofs.lemmas.Bool.Decides.{nat_tests}
use Rattle.code.specs.Numbers.{any}

pub any_one : (k a : ℕ) → any k (λ c. eqb a c) ≡ ltb a k
unfolding any
any_one zero a = le-false a 0 (omega arith)
any_one (suc k) a = ap (λ b. b || eqb a k) (any_one k a) ∙ next a k
  where
    next : (a k : ℕ) → ltb a k || eqb a k ≡ ltb a (suc k)
    next a k = grind (arith, nat_tests)

pub any_or : (k : ℕ) (f g : ℕ → Bool) → any k (λ c. f c || g c) ≡ any k f || any k g
unfolding any
any_or zero f g = refl
any_or (suc k) f g = ap (λ b. b || (f k || g k)) (any_or k f g) ∙ mixed (any k f) (any k g) (f k) (g k)
  where
    mixed : (a b c d : Bool) → (a || b) || (c || d) ≡ (a || c) || (b || d)
    mixed true b c d = refl
    mixed false true true d = refl
    mixed false true false d = refl
    mixed false false c d = refl

pub any_two_of : (k a b : ℕ) → any k (λ c. eqb a c || eqb b c) ≡ ltb a k || ltb b k
any_two_of k a b = any_or k (λ c. eqb a c) (λ c. eqb b c) ∙ ap₂ (λ x y. x || y) (any_one k a) (any_one k b)
