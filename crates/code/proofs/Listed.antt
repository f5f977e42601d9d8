-- The listed places of a line are those that it sums, and the listed lines of a place those that hold it.
use Rattle.std.proofs.Common.{◌≡◌, ℕ, zero, suc, ◌+◌, ◌<◌, Bool, true, false, cond, ◌&&◌, ◌||◌, eqb, List, [], ◌∷◌, ◌++◌, map, sym, refl, ap, ◌∙◌, ap₂, true≢false, append_assoc, append-nil, add-one, arith, eqb-true}
use lib.Bits.{bit_xor, xor_assoc, xor_zero_r}
use borrow.Author.Tests.{eq-true, ne_false, eqb-false}
use Rattle.std.proofs.Math.Bool.{or_assoc}
use Rattle.std.proofs.lemmas.List.{map-append, map_push}
use Rattle.code.specs.Numbers.{only, xorsum, any, those}
use Rattle.code.specs.Code.{Blocks, Rule, dark, meets, beside, gives, butterfly}
use Rattle.code.specs.Neighbours.{Tournament}
use Rattle.code.specs.Lines.{takes, holds, among, lines_of, in_row, places_below, places_of, sum_of}
use Rattle.code.proofs.Xor.{sum_same, sum_xor, sum_one, only_false}
use Rattle.code.proofs.Rows.{back}

-- ---- one number more

those_more : (n : ℕ) (f : ℕ → Bool) → f n ≡ true → those (n + 1) f ≡ those n f ++ n ∷ []
unfolding those
those_more n f e = ap (λ m. those m f) (add-one n) ∙ ap (λ b. those n f ++ cond b (n ∷ []) []) e

those_less : (n : ℕ) (f : ℕ → Bool) → f n ≡ false → those (n + 1) f ≡ those n f
unfolding those
those_less n f e = ap (λ m. those m f) (add-one n) ∙ ap (λ b. those n f ++ cond b (n ∷ []) []) e ∙ append-nil (those n f)

-- a loop that lists what passes: it takes one more, or passes over it
module _ {A : Type 0} (g : ℕ → A) (f : ℕ → Bool) (n : ℕ) (start now : List A) (listed : now ≡ start ++ map g (those n f)) where
  pub list_more : (next : List A) → f n ≡ true → next ≡ now ++ g n ∷ [] → next ≡ start ++ map g (those (n + 1) f)
  list_more next e p =
      p ∙ ap (λ xs. xs ++ g n ∷ []) listed ∙ append_assoc start (map g (those n f)) (g n ∷ [])
      ∙ ap (λ xs. start ++ xs) (sym (ap (map g) (those_more n f e) ∙ map_push g (those n f) n))

  pub list_less : (next : List A) → f n ≡ false → next ≡ now → next ≡ start ++ map g (those (n + 1) f)
  list_less next e p = p ∙ listed ∙ ap (λ xs. start ++ map g xs) (sym (those_less n f e))

pub places_next : (k : ℕ) (right : Rule) (n t : ℕ)
    → places_below k right n (t + 1) ≡ places_below k right n t ++ in_row (meets n t) (those k (takes right (meets n t) t))
unfolding places_below
places_next k right n t = ap (places_below k right n) (add-one t)

-- ---- the places of a line

module _ (D : Blocks) where
  sum_append : (ps qs : List (ℕ × ℕ)) → sum_of D (ps ++ qs) ≡ bit_xor (sum_of D ps) (sum_of D qs)
  unfolding sum_of
  sum_append [] qs = refl
  sum_append (p ∷ ps) qs = ap (bit_xor (D p.0 p.1)) (sum_append ps qs) ∙ sym (xor_assoc (D p.0 p.1) (sum_of D ps) (sum_of D qs))

  sum_in_row : (i m : ℕ) (f : ℕ → Bool) → sum_of D (in_row i (those m f)) ≡ xorsum m (λ j. only (f j) (D i j))
  unfolding those sum_of xorsum only
  sum_in_row i zero f = refl
  sum_in_row i (suc m) f =
      ap (sum_of D) (map-append (λ j. (i, j)) (those m f) (cond (f m) (m ∷ []) []))
      ∙ sum_append (in_row i (those m f)) (in_row i (cond (f m) (m ∷ []) []))
      ∙ ap₂ bit_xor (sum_in_row i m f) (go (f m))
    where
      go : (b : Bool) → sum_of D (in_row i (cond b (m ∷ []) [])) ≡ only b (D i m)
      go true = xor_zero_r (D i m)
      go false = refl

  module _ (k : ℕ) (right : Rule) (law : Tournament k right) where
    -- its own block, and those of right neighbours
    both : (own d r : Bool) (x : ℕ) → (own ≡ true → r ≡ false) → bit_xor (only own x) (only d (only r x)) ≡ only (own || (d && r)) x
    unfolding only
    both true d true x h = absurd (true≢false (h refl))
    both true true false x h = xor_zero_r x
    both true false false x h = xor_zero_r x
    both false true r x h = refl
    both false false r x h = refl

    inside : (d : Bool) (m : ℕ) (f : ℕ → ℕ) → only d (xorsum m f) ≡ xorsum m (λ j. only d (f j))
    unfolding only xorsum
    inside true m f = refl
    inside false zero f = refl
    inside false (suc m) f = ap (λ x. bit_xor x 0) (inside false m f)

    gives_taken : (i t : ℕ) → t < k → gives k right D i t ≡ xorsum k (λ j. only (takes right i t j) (D i j))
    unfolding gives beside takes only
    gives_taken i t l =
        ap₂ bit_xor
        (ap (λ b. cond b (D i t) 0) (eq-true t t refl)
        ∙ sym (sum_one k (λ j. only (eqb t j) (D i j)) t l (λ j jk n. only_false (eqb t j) (D i j) (sym (ne_false t j (λ e. n (sym e)))))))
        (inside (dark i t) k (λ j. only (right t j) (D i j)))
        ∙ sym (sum_xor k (λ j. only (eqb t j) (D i j)) (λ j. only (dark i t) (only (right t j) (D i j))))
        ∙ sum_same k (λ j. bit_xor (only (eqb t j) (D i j)) (only (dark i t) (only (right t j) (D i j)))) (λ j. only (eqb t j || (dark i t && right t j)) (D i j))
        (λ j jk. both (eqb t j) (dark i t) (right t j) (D i j) (λ e. ap (right t) (sym (eqb-true t j e)) ∙ law.not_own t l))

    sum_below : (n t : ℕ) → ((s : ℕ) → s < t → s < k) → sum_of D (places_below k right n t) ≡ xorsum t (λ s. gives k right D (meets n s) s)
    unfolding places_below xorsum sum_of
    sum_below n zero h = refl
    sum_below n (suc t) h =
        sum_append (places_below k right n t) (in_row (meets n t) (those k (takes right (meets n t) t)))
        ∙ ap₂ bit_xor (sum_below n t (λ s l. h s (omega arith)))
        (sum_in_row (meets n t) k (takes right (meets n t) t) ∙ sym (gives_taken (meets n t) t (h t (omega arith))))

    -- the butterfly block of a line is the sum of its listed places
    pub line_sums_places : (n : ℕ) → butterfly k right D n ≡ sum_of D (places_of k right n)
    unfolding butterfly places_of
    line_sums_places n = sym (sum_below n k (λ s l. l))

-- ---- the lines of a place

among_append : (n : ℕ) (xs ys : List ℕ) → among n (xs ++ ys) ≡ among n xs || among n ys
unfolding among
among_append n [] ys = refl
among_append n (x ∷ xs) ys = ap (λ b. eqb x n || b) (among_append n xs ys) ∙ sym (or_assoc (eqb x n) (among n xs) (among n ys))

among_those : (n m : ℕ) (g : ℕ → ℕ) (f : ℕ → Bool) → among n (map g (those m f)) ≡ any m (λ t. eqb (g t) n && f t)
unfolding among those any
among_those n zero g f = refl
among_those n (suc m) g f =
    ap (among n) (map-append g (those m f) (cond (f m) (m ∷ []) []))
    ∙ among_append n (map g (those m f)) (map g (cond (f m) (m ∷ []) []))
    ∙ ap₂ (λ a b. a || b) (among_those n m g f) (go (f m) (eqb (g m) n) refl)
  where
    go : (b e : Bool) → eqb (g m) n ≡ e → among n (map g (cond b (m ∷ []) [])) ≡ e && b
    go true true h = ap (λ s. s || false) h
    go true false h = ap (λ s. s || false) h
    go false true h = refl
    go false false h = refl

pub any_same : (m : ℕ) (f g : ℕ → Bool) → ((t : ℕ) → f t ≡ g t) → any m f ≡ any m g
unfolding any
any_same zero f g h = refl
any_same (suc m) f g h = ap₂ (λ a b. a || b) (any_same m f g h) (h m)

-- line n meets column t in row i just where row i meets column t in line n
pub turned : (n i t : ℕ) → eqb (meets n t) i ≡ eqb (meets i t) n
turned n i t = go (eqb (meets n t) i) refl
  where
    go : (b : Bool) → eqb (meets n t) i ≡ b → eqb (meets n t) i ≡ eqb (meets i t) n
    go true e = e ∙ eq-true (meets i t) n (ap (λ x. meets x t) (sym (eqb-true (meets n t) i e)) ∙ back n t)
    go false e = e ∙ ne_false (meets i t) n (λ h. eqb-false (meets n t) i e (ap (λ x. meets x t) (sym h) ∙ back i t))

-- a line holds a place just where it is among the listed lines of the place
pub holds_listed : (k : ℕ) (right : Rule) (n i j : ℕ) → holds k right n i j ≡ among n (lines_of k right i j)
unfolding holds lines_of
holds_listed k right n i j =
    any_same k (λ t. eqb (meets n t) i && takes right i t j) (λ t. eqb (meets i t) n && takes right i t j) (λ t. ap (λ b. b && takes right i t j) (turned n i t))
    ∙ sym (among_those n k (meets i) (λ t. takes right i t j))
