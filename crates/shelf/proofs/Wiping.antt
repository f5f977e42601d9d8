-- The steps of a wipe.
use Rattle.std.proofs.Common.{◌≡◌, ℕ, ◌+◌, List, sym, ap, subst, arith}
use mathlib.Core.Path.{fun_ext}
use Rattle.std.proofs.lemmas.Bool.Decides.{nat_tests}
use Rattle.tray.specs.Meaning.{Meaning, stored}
use Rattle.shelf.specs.Blocks.{Ready}
use Rattle.shelf.specs.Wiped.{holding, wiped_column}

module _ (m : Meaning) (block : List ℕ) where
  same_blocks : (f g : ℕ → ℕ → List ℕ) → ((j i : ℕ) → f j i ≡ g j i) → holding m f ≡ holding m g
  same_blocks f g h = ap (holding m) (fun_ext (λ j. fun_ext (λ i. h j i)))

  pub column_none : (c : ℕ) → m ≡ wiped_column m c 0 block
  column_none c = same_blocks m.block _ (λ j i. grind (arith, nat_tests))

  pub column_more : (c n : ℕ) → stored (wiped_column m c n block) c n block ≡ wiped_column m c (n + 1) block
  column_more c n = same_blocks _ _ (λ j i. grind (arith, nat_tests))

-- other blocks leave a tray ready
pub ready_still : (m m' : Meaning) (blocks : ℕ → ℕ → List ℕ) (c i n : ℕ) → m' ≡ holding m blocks → Ready m c i n → Ready m' c i n
ready_still m m' blocks c i n e h =
    subst (λ x. Ready x c i n) (sym e) (record { column = h.column; row = h.row; long = h.long; answers = h.answers })
