-- Zeros fit zeros.
use Rattle.std.proofs.Common.{◌≡◌, ℕ, ◌<◌, Bool, true, false, cond, eqb, ltb, get_or, replicate, sym, ◌∙◌}
use lib.ListN.{get_or-replicate}
use Rattle.code.specs.Code.{Blocks, Rule, meets, horizontal, gives, butterfly, value}
use Rattle.code.specs.Laws.{lane}
use Rattle.code.proofs.Xor.{sum_none}
use Rattle.code.proofs.Lost.{gives_none, beside_none}

module _ (k : ℕ) (right : Rule) (X : Blocks) (none : (i j : ℕ) → X i j ≡ 0) where
  pub value_none : (c r : ℕ) → value k right X c r ≡ 0
  unfolding value horizontal butterfly
  value_none c r = go (ltb c k) (eqb c k)
    where
      line : butterfly k right X r ≡ 0
      line = sum_none k (λ j. gives k right X (meets r j) j) (λ j l. gives_none k right X (meets r j) j (none (meets r j) j) (λ _. beside_none k right X (meets r j) j (λ j' _ _. none (meets r j) j')))

      go : (s t : Bool) → cond s (X r c) (cond t (horizontal k X r) (butterfly k right X r)) ≡ 0
      go true t = none r c
      go false true = sum_none k (X r) (λ j l. none r j)
      go false false = line

pub zero_value : (k : ℕ) (right : Rule) (size b c r : ℕ) → b < size → get_or (replicate size 0) b 0 ≡ value k right (lane (λ i j. replicate size 0) b) c r
zero_value k right size b c r l =
    get_or-replicate size b 0 0 l ∙ sym (value_none k right (lane (λ i j. replicate size 0) b) (λ i j. get_or-replicate size b 0 0 l) c r)
