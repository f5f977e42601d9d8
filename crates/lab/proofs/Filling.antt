-- A block put in every row of a column: where the first put is accepted, the others are accepted too.
use Rattle.std.proofs.Common.{◌≡◌, ℕ, ◌+◌, ◌<◌, List, length, Ok, sym, ◌∙◌}
use Rattle.tray.specs.Meaning.{Meaning, Sized}
use Rattle.code.specs.Code.{rows}
use Rattle.law.specs.Holding.{SameFrame}
use Rattle.shelf.specs.Rosters.{Rostered}
use Rattle.shelf.specs.Checks.{reaching}
use Rattle.shelf.proofs.Checked.{reached}
use Rattle.lab.specs.Obeying.{PutOn, Filled, none, more}

-- a put leaves what the checks look at
still_reached : (r : Rostered) (m m' : Meaning) (c i n w : ℕ) → SameFrame m m' → reaching r m c i n w ≡ Ok tt → reaching r m' c i n w ≡ Ok tt
still_reached r m m' c i n w f e = simp (f.shape.wide, f.shape.tall, f.shape.deep, f.answers) e

-- the block stands in the rows below n, by which the tray came from m to m', and row 0 is reached still
pub record Filling (r : Rostered) (c : ℕ) (x : List ℕ) (w : ℕ) (m : Meaning) (n : ℕ) (m' : Meaning) : Type 0 where
  pub reached : reaching r m' c 0 (length x) w ≡ Ok tt
  pub filled : Filled r c x m n m'

-- one row more
pub fill_more : {r : Rostered} {c w n : ℕ} {x : List ℕ} {m m₁ m₂ : Meaning} → Filling r c x w m n m₁ → PutOn r m₁ c n x m₂ → Sized m₂ → Filling r c x w m (n + 1) m₂
fill_more {r} {c} {w} {x = x} {m₁ = m₁} {m₂ = m₂} f d sized =
    record { reached = still_reached r m₁ m₂ c 0 (length x) w d.frame f.reached; filled = more f.filled d sized }

-- row 0, where the put was accepted
pub fill_first : {r : Rostered} {c w : ℕ} {x : List ℕ} {m m₁ : Meaning} → Ok tt ≡ reaching r m c 0 (length x) w → PutOn r m c 0 x m₁ → Sized m₁ → Filling r c x w m 1 m₁
fill_first accepted d sized = fill_more (record { reached = sym accepted; filled = none }) d sized

-- the rows of the tray are those of the shelf, and there is one
pub rows_of_tray : (r : Rostered) (w : ℕ) {c : ℕ} {x : List ℕ} {m m₁ : Meaning} → Ok tt ≡ reaching r m c 0 (length x) w → PutOn r m c 0 x m₁
    → (m₁.rows ≡ rows r.width) × (0 < rows r.width)
rows_of_tray r w {c} {x} {m} accepted d =
    let checked = reached r m c 0 (length x) w (sym accepted) in (
      d.frame.shape.tall ∙ checked.sound.shape.tall,
      checked.row,
    )
