-- Worked examples of the rules at the widths 3 and 5, under a rule of right neighbours for each width.
use Rattle.std.specs.Prelude.{◌≡◌, ℕ, not, List, [], ◌∷◌, map, slice_index, slice_index_or}
use Rattle.code.specs.Numbers.{those}
use Rattle.code.specs.Code.{Blocks, Rule, spot, dark, meets, horizontal, butterfly}
use Rattle.code.specs.Lines.{holds, sum_of}

-- data given column by column
unfoldable pub given : List (List ℕ) → Blocks
given cols i j = slice_index (slice_index_or cols j []) i

-- three columns of four blocks of one byte
unfoldable pub sample : Blocks
sample = given ((0x01 ∷ 0x02 ∷ 0x04 ∷ 0x08 ∷ []) ∷ (0x10 ∷ 0x20 ∷ 0x40 ∷ 0x80 ∷ []) ∷ (0x03 ∷ 0x05 ∷ 0x09 ∷ 0x11 ∷ []) ∷ [])

pub record Examples (rule : ℕ → Rule) : Type 0 where
  -- width 3: the right neighbour of column 0
  pub neighbour : those 3 (rule 3 0) ≡ 2 ∷ []
  -- what lines sum, as places (row, column)
  pub line_0 : (D : Blocks) → butterfly 3 (rule 3) D 0 ≡ sum_of D ((0, 0) ∷ (0, 2) ∷ (1, 1) ∷ (3, 2) ∷ [])
  pub line_2 : (D : Blocks) → butterfly 3 (rule 3) D 2 ≡ sum_of D ((2, 0) ∷ (2, 2) ∷ (3, 1) ∷ (3, 0) ∷ (1, 2) ∷ (1, 1) ∷ [])
  pub line_0_of_5 : (D : Blocks) → butterfly 5 (rule 5) D 0 ≡ sum_of D ((0, 0) ∷ (0, 4) ∷ (0, 3) ∷ (1, 1) ∷ (3, 2) ∷ (7, 3) ∷ (15, 4) ∷ [])
  -- both parity columns of the sample
  pub sample_h : map (horizontal 3 sample) (0 ∷ 1 ∷ 2 ∷ 3 ∷ []) ≡ 0x12 ∷ 0x27 ∷ 0x4d ∷ 0x99 ∷ []
  pub sample_b : map (butterfly 3 (rule 3) sample) (0 ∷ 1 ∷ 2 ∷ 3 ∷ []) ≡ 0x33 ∷ 0x1a ∷ 0xa0 ∷ 0x5b ∷ []
  -- width 3, column 1 lost: the rows and the lines that are read
  pub rows_for_1 : those 4 (λ i. dark i 1) ≡ 0 ∷ 3 ∷ []
  pub lines_for_1 : map (λ i. meets i 1) (those 4 (λ i. not (dark i 1))) ≡ 0 ∷ 3 ∷ []
  -- the same for column 0
  pub rows_for_0 : those 4 (λ i. dark i 0) ≡ 0 ∷ 2 ∷ []
  pub lines_for_0 : map (λ i. meets i 0) (those 4 (λ i. not (dark i 0))) ≡ 1 ∷ 3 ∷ []
  -- width 3: the place (0, 0) lies in the lines 0 and 1 only
  pub held_by : those 4 (λ n. holds 3 (rule 3) n 0 0) ≡ 0 ∷ 1 ∷ []
  pub in_lines : (x : ℕ) → map (butterfly 3 (rule 3) (spot 0 0 x)) (0 ∷ 1 ∷ 2 ∷ 3 ∷ []) ≡ x ∷ x ∷ 0 ∷ 0 ∷ []
