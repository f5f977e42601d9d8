-- What a rebuild finds, writes and reads.
use Rattle.std.proofs.Common.{◌≡◌, ℕ, suc, ◌+◌, ◌-◌, ◌*◌, ◌/◌, ◌^◌, ◌<◌, ◌≤◌, true, List, length, get_or, sym, ap, add-mul, mul-le-mul, arith}
use mathlib.Core.Path.{fun_ext}
use Rattle.std.proofs.lemmas.List.{places}
use Rattle.tray.specs.Meaning.{Meaning}
use Rattle.code.specs.Code.{rows}
use Rattle.code.specs.Widths.{is_width}
use Rattle.code.proofs.Limits.{a_width, few_rows}
use Rattle.shelf.specs.Wiped.{holding}
use Rattle.shelf.specs.Blocks.{Ready}
use Rattle.shelf.specs.Slots.{slot}
use Rattle.shelf.specs.Reading.{Answers}
use Rattle.shelf.specs.Rebuilding.{slot_block}

-- ---- how many blocks

pub half_rows : (k : ℕ) → is_width k ≡ true → rows k / 2 ≡ 2 ^ (k - 2)
unfolding rows
half_rows k w = let l = a_width k w in let e : 2 ^ (k - 1) ≡ 2 ^ suc (k - 2) = ap (λ n. 2 ^ n) (less_one k (omega arith)) in omega arith
  where
    less_one : (k : ℕ) → 2 ≤ k → k - 1 ≡ suc (k - 2)
    less_one k l = omega arith

-- few enough for a number of 32 bits
pub few_reads : (k n : ℕ) → is_width k ≡ true → n ≤ rows k → (k + 1) * n ≤ 12288
few_reads k n w l = let h = a_width k w in let f = few_rows k w in mul-le-mul {n₁ = k + 1} {m₁ = n} {n₂ = 12} {m₂ = 1024} (omega arith) (omega arith)

pub fewer_reads : (k : ℕ) → is_width k ≡ true → k * rows k ≤ 12288
fewer_reads k w = let h = a_width k w in let f = few_rows k w in mul-le-mul {n₁ = k} {m₁ = rows k} {n₂ = 12} {m₂ = 1024} (omega arith) (omega arith)

-- ---- the block of a slot

module _ (size : ℕ) (work : List ℕ) (s : ℕ) (fits : (s + 1) * size ≤ length work) where
  pub slot_long : length (slot_block size work s) ≡ size
  unfolding slot_block
  slot_long = let e = add-mul s 1 size in grind (arith, places)

  pub slot_byte : (b : ℕ) → b < size → get_or (slot_block size work s) b 0 ≡ slot size work s b
  unfolding slot_block slot
  slot_byte b l = let e = add-mul s 1 size in grind (arith, places)

-- ---- row after row

module _ (m : Meaning) (c : ℕ) (f : ℕ → List ℕ) where
  same_blocks : (g h : ℕ → ℕ → List ℕ) → ((j i : ℕ) → g j i ≡ h j i) → holding m g ≡ holding m h
  same_blocks g h e = ap (holding m) (fun_ext (λ j. fun_ext (λ i. e j i)))

-- a column that answers can be written
pub answers_ready : (k size : ℕ) (m : Meaning) (c : ℕ) → Answers k size m c → (i : ℕ) → i < rows k → Ready m c i size
answers_ready k size m c h i l =
    record {
      column = omega (arith, h.shape.wide, h.column);
      row = omega (arith, h.shape.tall);
      long = sym h.shape.deep;
      answers = h.flag;
    }
