-- The code is linear: the difference of two data has the difference of their values.
use Rattle.std.proofs.Common.{◌≡◌, ℕ, ◌+◌, ◌<◌, Bool, true, false, cond, eqb, ltb, sym, refl, ap, ◌∙◌, ap₂, arith}
use lib.Bits.{bit_xor}
use borrow.Author.Tests.{lt-true, le-false, eq-true, ne_false}
use Rattle.code.specs.Numbers.{only}
use Rattle.code.specs.Code.{Blocks, Rule, rows, dark, meets, horizontal, beside, gives, butterfly, value}
use Rattle.code.proofs.Rows.{meets_lt}
use Rattle.code.proofs.Xor.{xor_swap, only_xor, sum_same, sum_xor}

-- where two data differ, and by what
abbrev pub difference : Blocks → Blocks → Blocks
difference D E i j = bit_xor (D i j) (E i j)

cond_xor : (b : Bool) (x x' y y' : ℕ) → cond b (bit_xor x x') (bit_xor y y') ≡ bit_xor (cond b x y) (cond b x' y')
cond_xor true x x' y y' = refl
cond_xor false x x' y y' = refl

module _ (k : ℕ) (right : Rule) where
  -- what each column holds
  pub value_data : (X : Blocks) (c r : ℕ) → c < k → value k right X c r ≡ X r c
  unfolding value
  value_data X c r l = ap (λ t. cond t (X r c) (cond (eqb c k) (horizontal k X r) (butterfly k right X r))) (sym (lt-true c k l))

  pub value_horizontal : (X : Blocks) (r : ℕ) → value k right X k r ≡ horizontal k X r
  unfolding value
  value_horizontal X r =
      ap₂ (λ s t. cond s (X r k) (cond t (horizontal k X r) (butterfly k right X r))) (sym (le-false k k (omega arith))) (sym (eq-true k k refl))

  pub value_butterfly : (X : Blocks) (r : ℕ) → value k right X (k + 1) r ≡ butterfly k right X r
  unfolding value
  value_butterfly X r =
      ap₂ (λ s t. cond s (X r (k + 1)) (cond t (horizontal k X r) (butterfly k right X r)))
      (sym (le-false (k + 1) k (omega arith))) (sym (ne_false (k + 1) k (omega arith)))

  -- values depend on the k columns and their rows alone
  module _ (D E : Blocks) (same : (i j : ℕ) → i < rows k → j < k → D i j ≡ E i j) where
    pub horizontal_same : (i : ℕ) → i < rows k → horizontal k D i ≡ horizontal k E i
    unfolding horizontal
    horizontal_same i l = sum_same k (D i) (E i) (λ j jk. same i j l jk)

    pub gives_same : (i j : ℕ) → i < rows k → j < k → gives k right D i j ≡ gives k right E i j
    unfolding gives beside
    gives_same i j l jk =
        ap₂ (λ x y. bit_xor x (only (dark i j) y)) (same i j l jk)
        (sum_same k (λ j'. only (right j j') (D i j')) (λ j'. only (right j j') (E i j')) (λ j' jk'. ap (only (right j j')) (same i j' l jk')))

    pub butterfly_same : (n : ℕ) → n < rows k → butterfly k right D n ≡ butterfly k right E n
    unfolding butterfly
    butterfly_same n l =
        sum_same k (λ j. gives k right D (meets n j) j) (λ j. gives k right E (meets n j) j) (λ j jk. gives_same (meets n j) j (meets_lt k n j l jk) jk)

  module _ (D E : Blocks) where
    pub horizontal_xor : (i : ℕ) → horizontal k (difference D E) i ≡ bit_xor (horizontal k D i) (horizontal k E i)
    unfolding horizontal
    horizontal_xor i = sum_xor k (D i) (E i)

    beside_xor : (i j : ℕ) → beside k right (difference D E) i j ≡ bit_xor (beside k right D i j) (beside k right E i j)
    unfolding beside
    beside_xor i j =
        sum_same k (λ j'. only (right j j') (bit_xor (D i j') (E i j'))) (λ j'. bit_xor (only (right j j') (D i j')) (only (right j j') (E i j')))
        (λ j' l. only_xor (right j j') (D i j') (E i j'))
        ∙ sum_xor k (λ j'. only (right j j') (D i j')) (λ j'. only (right j j') (E i j'))

    gives_xor : (i j : ℕ) → gives k right (difference D E) i j ≡ bit_xor (gives k right D i j) (gives k right E i j)
    unfolding gives
    gives_xor i j =
        ap (λ x. bit_xor (bit_xor (D i j) (E i j)) (only (dark i j) x)) (beside_xor i j)
        ∙ ap (bit_xor (bit_xor (D i j) (E i j))) (only_xor (dark i j) (beside k right D i j) (beside k right E i j))
        ∙ xor_swap (D i j) (E i j) (only (dark i j) (beside k right D i j)) (only (dark i j) (beside k right E i j))

    pub butterfly_xor : (n : ℕ) → butterfly k right (difference D E) n ≡ bit_xor (butterfly k right D n) (butterfly k right E n)
    unfolding butterfly
    butterfly_xor n =
        sum_same k (λ j. gives k right (difference D E) (meets n j) j)
        (λ j. bit_xor (gives k right D (meets n j) j) (gives k right E (meets n j) j)) (λ j l. gives_xor (meets n j) j)
        ∙ sum_xor k (λ j. gives k right D (meets n j) j) (λ j. gives k right E (meets n j) j)

    pub value_xor : (c r : ℕ) → value k right (difference D E) c r ≡ bit_xor (value k right D c r) (value k right E c r)
    unfolding value
    value_xor c r =
        ap₂ (λ x y. cond (ltb c k) (bit_xor (D r c) (E r c)) (cond (eqb c k) x y)) (horizontal_xor r) (butterfly_xor r)
        ∙ ap (cond (ltb c k) (bit_xor (D r c) (E r c))) (cond_xor (eqb c k) (horizontal k D r) (horizontal k E r) (butterfly k right D r) (butterfly k right E r))
        ∙ cond_xor (ltb c k) (D r c) (E r c) (cond (eqb c k) (horizontal k D r) (butterfly k right D r)) (cond (eqb c k) (horizontal k E r) (butterfly k right E r))
