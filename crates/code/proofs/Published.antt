-- At an odd width, the published rule makes of two columns exactly one the right neighbour of the other.
use Rattle.std.proofs.Common.{◌≡◌, ℕ, ◌+◌, ◌-◌, ◌/◌, ◌%◌, ◌<◌, ◌≤◌, false, not, ◌&&◌, leb, sym, ap, ◌∙◌, ap₂, mod-eq_of_lt, arith}
use native.Mathlib.Nat.{add-mod_right}
use native.Mathlib.Decide.{dec_lt}
use borrow.Author.Tests.{lt-true}
use Rattle.std.proofs.lemmas.Bool.Decides.{nat_tests}
use Rattle.code.specs.Neighbours.{Tournament, distance, near, published}

-- two ways round add up to an odd number: one of them is the shorter
shorter : (h a b : ℕ) → 1 ≤ a → 1 ≤ b → a + b ≡ h + h + 1 → (leb 1 a && leb a h) ≡ not (leb 1 b && leb b h)
shorter h a b l m e = grind (arith, nat_tests)

pub ahead : (k p q : ℕ) → p ≤ q → q < k → distance k q p ≡ q - p
unfolding distance
ahead k p q l m = ap (λ (x : ℕ). x % k) (omega arith) ∙ add-mod_right (q - p) k ∙ mod-eq_of_lt {n = q - p} {m = k} (omega arith)

pub behind : (k p q : ℕ) → p < q → q < k → distance k p q ≡ p + k - q
unfolding distance
behind k p q l m = mod-eq_of_lt {n = p + k - q} {m = k} (omega arith)

-- between data columns the rule is the test of their distance
pub by_distance : (k p q d : ℕ) → p < k → q < k → distance k p q ≡ d → published k p q ≡ near k d
unfolding published
by_distance k p q d l m e = ap₂ (λ s t. (s && t) && near k (distance k p q)) (sym (lt-true p k l)) (sym (lt-true q k m)) ∙ ap (near k) e

-- columns p and q, with p before q
module _ (k p q : ℕ) (odd : k % 2 ≡ 1) (l : p < q) (m : q < k) where
  up : near k (q - p) ≡ not (near k (p + k - q))
  unfolding near
  up = shorter ((k - 1) / 2) (q - p) (p + k - q) (omega arith) (omega arith) (omega arith)

  down : near k (p + k - q) ≡ not (near k (q - p))
  unfolding near
  down = shorter ((k - 1) / 2) (p + k - q) (q - p) (omega arith) (omega arith) (omega arith)

  from_q : published k q p ≡ near k (q - p)
  from_q = by_distance k q p (q - p) m (omega arith) (ahead k p q (omega arith) m)

  from_p : published k p q ≡ near k (p + k - q)
  from_p = by_distance k p q (p + k - q) (omega arith) m (behind k p q l m)

pub own : (k j : ℕ) → j < k → published k j j ≡ false
unfolding near
own k j l = by_distance k j j 0 l l (ahead k j j (omega arith) l ∙ self j)
  where
    self : (j : ℕ) → j - j ≡ 0
    self j = omega arith

pub odd_widths : (k : ℕ) → k % 2 ≡ 1 → Tournament k (published k)
odd_widths k o =
    record {
      not_own = own k;
      one_way = λ p q pk qk d. elim (dec_lt p q) [
        | yes l ↦ from_p k p q o l qk ∙ down k p q o l qk ∙ ap not (sym (from_q k p q o l qk))
        | no n ↦
            let l : q < p = omega arith in
            from_q k q p o l pk ∙ up k q p o l pk ∙ ap not (sym (from_p k q p o l pk))
      ];
    }
