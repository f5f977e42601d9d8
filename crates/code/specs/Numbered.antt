-- Lines by their numbers.
use Rattle.std.specs.Prelude.{ℕ, List, map}
use Rattle.code.specs.declared.places.Line.{Line}

abbrev pub numbers : List Line → List ℕ
numbers lines = map (λ n. n.0) lines
