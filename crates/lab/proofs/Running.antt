-- A command of a script, by the script that its letter was split off.
use Rattle.std.proofs.Common.{◌≡◌, ℕ, List, [], ◌∷◌, Some, None, Option, refl, ap, ◌∙◌, subst}
use Rattle.script.specs.Reading.{lettered}
use Rattle.lab.specs.Labs.{Standing}
use Rattle.lab.specs.Running.{Ran, Runs}

joined : Option (ℕ × List ℕ) → List ℕ
joined None = []
joined (Some p) = p.0 ∷ p.1

joined_back : (script : List ℕ) → joined (lettered script) ≡ script
unfolding joined
joined_back [] = refl
joined_back (c ∷ rest) = refl

pub runs_split : {sheet : List ℕ} {s : Standing} (script : List ℕ) {letter : ℕ} {operands work line : List ℕ} {n : ℕ} {rest work' line' : List ℕ} {s' : Standing}
    → Some (letter, operands) ≡ lettered script → Ran sheet s letter operands work line n rest work' line' s' → Runs sheet s script work line n rest work' line' s'
unfolding joined
runs_split {sheet} {s} script {letter} {operands} {work} {line} {n} {rest} {work'} {line'} {s'} e ran =
    subst (λ t. Runs sheet s t work line n rest work' line' s') (ap joined e ∙ joined_back script) ran
