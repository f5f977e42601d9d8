-- What a width is.
use Rattle.std.proofs.Common.{◌≡◌, ℕ, ◌-◌, ◌%◌, ◌≤◌, true, ◌&&◌, ltb, arith, pow_mono}
use Rattle.std.proofs.lemmas.Bool.{and_parts}
use Rattle.std.proofs.lemmas.Bool.Decides.{nat_tests}
use Rattle.code.specs.Code.{rows}
use Rattle.code.specs.Neighbours.{Tournament, published}
use Rattle.code.specs.Widths.{is_width, is_line, is_place}
use Rattle.code.proofs.Published.{odd_widths}

pub record Width (k : ℕ) : Type 0 where
  pub low : 3 ≤ k
  pub high : k ≤ 11
  pub odd : k % 2 ≡ 1

pub a_width : (k : ℕ) → is_width k ≡ true → Width k
unfolding is_width
a_width k e = record { low = grind (arith, nat_tests); high = grind (arith, nat_tests); odd = grind (arith, nat_tests) }

pub low_width : (k : ℕ) → is_width k ≡ true → 3 ≤ k
low_width k e = (a_width k e).low

pub high_width : (k : ℕ) → is_width k ≡ true → k ≤ 11
high_width k e = (a_width k e).high

pub law_of_width : (k : ℕ) → is_width k ≡ true → Tournament k (published k)
law_of_width k e = odd_widths k (a_width k e).odd

pub few_rows : (k : ℕ) → is_width k ≡ true → rows k ≤ 1024
unfolding rows
few_rows k e = let w = a_width k e in pow_mono {i = k - 1} {j = 10} (omega arith)

pub line_width : (k n : ℕ) → is_line k n ≡ true → is_width k ≡ true
line_width k n e = (and_parts (is_width k) (ltb n (rows k)) e).0

pub place_width : (k i j : ℕ) → is_place k i j ≡ true → is_width k ≡ true
place_width k i j e = (and_parts (is_width k) (ltb i (rows k) && ltb j k) e).0
