-- A text that is added to a line being written.
use Rattle.std.specs.Prelude.{◌≡◌, ℕ, ◌+◌, ◌≤◌, List, ◌++◌, length, take, drop}
use Rattle.lab.specs.declared.line.Line.{Line}

-- the buffer has room for n bytes behind the text so far
abbrev pub HasRoom : Line → ℕ → Type 0
HasRoom line n = line.len + n ≤ length line.buffer.now

-- the text, of n bytes at most, stands behind the text so far, and the rest of the buffer is as it was; it is the same buffer
pub record Pushes (line : Line) (n : ℕ) (text : List ℕ) (line' : Line) : Type 0 where
  pub len : line'.len ≡ line.len + length text
  pub short : length text ≤ n
  pub front : take line'.len line'.buffer.now ≡ take line.len line.buffer.now ++ text
  pub rest : drop line'.len line'.buffer.now ≡ drop line'.len line.buffer.now
  pub long : length line'.buffer.now ≡ length line.buffer.now
  pub same : line'.buffer.ghost_name ≡ line.buffer.ghost_name
