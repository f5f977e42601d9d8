-- Shapes, and what a shape alone says of a call.
use Rattle.std.specs.Prelude.{true, []}
use Rattle.tray.specs.declared.trays.Shape.{Shape}
use Rattle.tray.specs.Meaning.{Meaning}

-- A tray of this shape in which every column answers. What a call on it answers depends on the
-- shape alone.
abbrev pub all_answer : Shape → Meaning
all_answer s = record { columns = s.columns; rows = s.rows; size = s.size; answers = λ _. true; block = λ _ _. []; tally = λ _. 0 }
