-- Places of a tray that a call may read and write once it has checked the tray.
use Rattle.std.specs.Prelude.{◌≡◌, ℕ, ◌<◌, true}
use Rattle.tray.specs.Meaning.{Meaning}

-- a read or a write of row i of column c, with a buffer of n bytes, is accepted
pub record Ready (m : Meaning) (c i n : ℕ) : Type 0 where
  pub column : c < m.columns
  pub row : i < m.rows
  pub long : n ≡ m.size
  pub answers : m.answers c ≡ true
