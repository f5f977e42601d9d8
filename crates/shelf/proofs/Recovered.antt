-- Where recovered blocks lie, and that they are found in each case of what is missing.
use Rattle.std.proofs.Common.{◌≡◌, ℕ, ◌+◌, ◌<◌, ◌≤◌, Bool, true, false, cond, not, ◌&&◌, ◌||◌, eqb, ltb, ◌≢◌, ◌⊎◌, List, sym, refl, ap, ◌∙◌, subst, ap₂, inl, inr, true≢false, arith}
use mathlib.Core.Path.{fun_ext}
use native.Mathlib.Decide.{ℕ_discrete}
use lib.Bits.{bit_xor, xor_zero_r}
use borrow.Author.Tests.{eq-true, ne_false, lt-true, le-false}
use Rattle.tray.specs.Meaning.{Meaning}
use Rattle.code.specs.Numbers.{only}
use Rattle.code.specs.Code.{Blocks, Rule, rows, meets, butterfly, value}
use Rattle.code.proofs.Put.{any_none, not_so}
use Rattle.code.proofs.Linear.{difference, value_data, value_horizontal, value_butterfly, horizontal_same, butterfly_same, butterfly_xor}
use Rattle.code.specs.Laws.{lane}
use Rattle.law.specs.Service.{Columns}
use Rattle.shelf.specs.declared.roster.missing.Missing.{Missing}
use Rattle.shelf.specs.declared.roster.missing.Missing.TheVariants.{Two}
use Rattle.shelf.specs.Missing.{is_out}
use Rattle.shelf.specs.Slots.{slot, row_slot}
use Rattle.shelf.specs.Reading.{data_out, parity_read, Gathered}
use Rattle.shelf.specs.Solving.{from_rows, Solving}
use Rattle.shelf.specs.Recovering.{slot_for, Found, Finds}
use Rattle.shelf.proofs.Outs.{any_two_of}
use Rattle.shelf.proofs.Finding.{row_lost, row_kept, line_lost, line_kept, start_two, start_one, solved_at, row_of_one, kept}
use Rattle.shelf.proofs.Spreading.{Spread}

module _ (k by c r : ℕ) where
  pub by_rows : c ≡ by → slot_for k by c r ≡ r
  unfolding slot_for
  by_rows e = ap (λ x. cond x r (rows k + cond (ltb c k) (meets r c) r)) (sym (eq-true c by e))

  pub by_line : c ≢ by → c < k → slot_for k by c r ≡ rows k + meets r c
  unfolding slot_for
  by_line n l = ap₂ (λ x y. cond x r (rows k + cond y (meets r c) r)) (sym (ne_false c by n)) (sym (lt-true c k l))

  pub by_number : c ≢ by → k ≤ c → slot_for k by c r ≡ rows k + r
  unfolding slot_for
  by_number n l = ap₂ (λ x y. cond x r (rows k + cond y (meets r c) r)) (sym (ne_false c by n)) (sym (le-false c k l))

-- ---- two columns

module _ (k a b : ℕ) where
  abbrev two : Columns
  two = is_out (Two a b)

  pub out_first : two a ≡ true
  out_first = ap (λ x. x || eqb b a) (sym (eq-true a a refl))

  pub out_second : two b ≡ true
  out_second = ap (λ x. eqb a b || x) (sym (eq-true b b refl)) ∙ or_on (eqb a b)
    where
      or_on : (x : Bool) → x || true ≡ true
      or_on true = refl
      or_on false = refl

  in_else : (c : ℕ) → c ≢ a → c ≢ b → two c ≡ false
  in_else c n m = ap₂ (λ x y. x || y) (sym (ne_false a c (λ e. n (sym e)))) (sym (ne_false b c (λ e. m (sym e))))

  pub which_of : (c : ℕ) → two c ≡ true → (c ≡ a) ⊎ (c ≡ b)
  which_of c e = elim (ℕ_discrete c a) [ yes f ↦ inl f | no n ↦ elim (ℕ_discrete c b) [ yes f ↦ inr f | no m ↦ absurd (true≢false (sym e ∙ in_else c n m)) ] ]

  pub which_back : (c : ℕ) → two c ≡ true → (c ≡ b) ⊎ (c ≡ a)
  which_back c e = elim (which_of c e) [ inl f ↦ inr f | inr f ↦ inl f ]

  -- a parity in service is read where one of the two is a data column
  read : (c : ℕ) → (ltb a k || ltb b k) ≡ true → two c ≡ false → parity_read k two c ≡ true
  read c e o = ap₂ (λ x y. x && not y) (any_two_of k a b ∙ e) o

  unread : (c : ℕ) → two c ≡ true → parity_read k two c ≡ false
  unread c o = ap (λ x. data_out k two && not x) o ∙ off (data_out k two)
    where
      off : (x : Bool) → x && false ≡ false
      off true = refl
      off false = refl

-- two data columns, by way of either of them
pub found_two : (k : ℕ) (right : Rule) (size a b p q : ℕ) → a < k → b < k → p < k → q < k → p ≢ q
    → ((c : ℕ) → is_out (Two a b) c ≡ true → (c ≡ p) ⊎ (c ≡ q)) → is_out (Two a b) p ≡ true → is_out (Two a b) q ≡ true
    → (was mid after : List ℕ) → Spread k right size was q mid
    → (len : ℕ) → len ≡ size → ((D : ℕ → Blocks) → Solving k right len p q D (λ _. false) mid → Solving k right len p q D (λ _. true) after)
    → Finds k right size (Two a b) was q after
found_two k right size a b p q ak bk pk qk d which op oq was mid after spread len e solves m g D fits c r x cl o rl xl =
    solved_at k right size p q pk d (lane D) after
    (subst (λ s. Solving k right s p q (lane D) (λ _. false) mid → Solving k right s p q (lane D) (λ _. true) after) e (solves (lane D)) (start_two k right size out (lane D) p q pk qk d op oq rest was mid
    (row_lost k right size out m D fits was g (read k a b k one (beyond k (omega arith) (omega arith))))
    (line_lost k right size out m D fits was g (read k a b (k + 1) one (beyond (k + 1) (omega arith) (omega arith)))) spread))
    c (which c o) r x rl xl
  where
    out : Columns
    out = is_out (Two a b)

    one : (ltb a k || ltb b k) ≡ true
    one = ap (λ y. y || ltb b k) (sym (lt-true a k ak))

    beyond : (c : ℕ) → c ≢ a → c ≢ b → is_out (Two a b) c ≡ false
    beyond c n n' = in_else k a b c n n'

    rest : (c : ℕ) → c < k → c ≢ p → c ≢ q → is_out (Two a b) c ≡ false
    rest c _ n n' = go (is_out (Two a b) c) refl
      where
        go : (y : Bool) → is_out (Two a b) c ≡ y → y ≡ false
        go false e = refl
        go true e = elim (which c e) [ inl f ↦ absurd (n f) | inr f ↦ absurd (n' f) ]

-- a data column and the horizontal one
pub found_horizontal : (k : ℕ) (right : Rule) (size a : ℕ) → a < k → (was after : List ℕ)
    → ((D : ℕ → Blocks) → Solving k right size a k D (λ _. false) was → Solving k right size a k D (λ _. true) after)
    → Finds k right size (Two a k) was k after
found_horizontal k right size a ak was after solves m g D fits c r x cl o rl xl =
    solved_at k right size a k ak (omega arith) (lane D) after
    (solves (lane D) (start_one k right size (is_out (Two a k)) (lane D) a ak (out_first k a k) (λ y yk n. in_else k a k y n (omega arith)) was
    (row_kept k right size (is_out (Two a k)) m D fits was g (unread k a k k (out_second k a k)))
    (line_lost k right size (is_out (Two a k)) m D fits was g (read k a k (k + 1) (ap (λ y. y || ltb k k) (sym (lt-true a k ak))) (in_else k a k (k + 1) (omega arith) (omega arith))))))
    c (which_of k a k c o) r x rl xl

-- a data column and the butterfly one
pub found_butterfly : (k : ℕ) (right : Rule) (size a b : ℕ) → a < k → b ≡ k + 1 → (was after : List ℕ) → Spread k right size was a after
    → Finds k right size (Two a b) was a after
unfolding only
found_butterfly k right size a b ak eb was after spread m g D fits c r x cl o rl xl =
    elim (which_of k a b c o) [
      | inl e ↦
          ap (λ s. slot size after s x) (by_rows k a c r e) ∙ spread.row x r xl rl ∙ xor_zero_r (row_slot size was x r) ∙ row r x rl xl
          ∙ sym (ap (λ y. value k right (lane D x) y r) e ∙ value_data k right (lane D x) a r ak)
      | inr e ↦
          ap (λ s. slot size after s x) (by_number k a c r (omega arith) (omega arith)) ∙ spread.line x r xl rl
          ∙ ap (λ y. bit_xor y (butterfly k right (from_rows size was a x) r)) (line_kept k right size out m D fits was g gone x r xl rl)
          ∙ sym (butterfly_xor k right (kept out (lane D x)) (from_rows size was a x) r)
          ∙ butterfly_same k right (difference (kept out (lane D x)) (from_rows size was a x)) (lane D x) (λ i y il yk. whole i y il yk) r rl
          ∙ sym (ap (λ y. value k right (lane D x) y r) (e ∙ eb) ∙ value_butterfly k right (lane D x) r)
    ]
  where
    out : Columns
    out = is_out (Two a b)

    rest : (y : ℕ) → y < k → y ≢ a → is_out (Two a b) y ≡ false
    rest y yk n = in_else k a b y n (omega arith)

    row : (r x : ℕ) → r < rows k → x < size → row_slot size was x r ≡ lane D x r a
    row r x rl xl =
        row_lost k right size (is_out (Two a b)) m D fits was g (read k a b k (ap (λ y. y || ltb b k) (sym (lt-true a k ak))) (in_else k a b k (omega arith) (omega arith))) x r xl rl
        ∙ row_of_one k right (is_out (Two a b)) (lane D x) a ak (out_first k a b) rest r

    gone : parity_read k (is_out (Two a b)) (k + 1) ≡ false
    gone = unread k a b (k + 1) (ap (is_out (Two a b)) (sym eb) ∙ out_second k a b)

    whole : (i y : ℕ) → i < rows k → y < k → bit_xor (cond (not (is_out (Two a b) y)) (lane D x i y) 0) (cond (eqb y a) (row_slot size was x i) 0) ≡ lane D x i y
    whole i y il yk =
        elim (ℕ_discrete y a) [
          | yes e ↦
              ap₂ (λ s t. bit_xor (cond (not s) (lane D x i y) 0) (cond t (row_slot size was x i) 0)) (ap (is_out (Two a b)) e ∙ out_first k a b) (sym (eq-true y a e))
              ∙ row i x il xl ∙ ap (lane D x i) (sym e)
          | no n ↦
              ap₂ (λ s t. bit_xor (cond (not s) (lane D x i y) 0) (cond t (row_slot size was x i) 0)) (rest y yk n) (sym (ne_false y a n)) ∙ xor_zero_r (lane D x i y)
        ]

-- parity columns alone: the sums of the data, which are all in service
pub found_parities : (k : ℕ) (right : Rule) (size : ℕ) (out : Missing) → ((c : ℕ) → is_out out c ≡ true → k ≤ c) → (work : List ℕ) → Finds k right size out work k work
unfolding only
found_parities k right size out parity work m g D fits c r x cl o rl xl =
    elim (ℕ_discrete c k) [
      | yes e ↦
          ap (λ s. slot size work s x) (by_rows k k c r e) ∙ row_kept k right size (is_out out) m D fits work g (unneeded k) x r xl rl
          ∙ horizontal_same k right (kept (is_out out) (lane D x)) (lane D x) (λ i y _ yk. in_place i y yk) r rl
          ∙ sym (ap (λ y. value k right (lane D x) y r) e ∙ value_horizontal k right (lane D x) r)
      | no n ↦
          ap (λ s. slot size work s x) (by_number k k c r n (parity c o)) ∙ line_kept k right size (is_out out) m D fits work g (unneeded (k + 1)) x r xl rl
          ∙ butterfly_same k right (kept (is_out out) (lane D x)) (lane D x) (λ i y _ yk. in_place i y yk) r rl
          ∙ sym (ap (λ y. value k right (lane D x) y r) (last c (parity c o) cl n) ∙ value_butterfly k right (lane D x) r)
    ]
  where
    served : (y : ℕ) → y < k → is_out out y ≡ false
    served y yk = not_so (is_out out y) (λ t. omega (arith, parity y t))

    in_place : (i y : ℕ) → y < k → cond (not (is_out out y)) (lane D x i y) 0 ≡ lane D x i y
    in_place i y yk = ap (λ s. cond (not s) (lane D x i y) 0) (served y yk)

    unneeded : (c : ℕ) → parity_read k (is_out out) c ≡ false
    unneeded c = ap (λ s. s && not (is_out out c)) (any_none k (is_out out) served)

    last : (c : ℕ) → k ≤ c → c < k + 2 → c ≢ k → c ≡ k + 1
    last c l l' n = omega arith

-- which of the two is named first does not matter
pub either_way : (k : ℕ) (right : Rule) (size a b : ℕ) (was : List ℕ) (by : ℕ) (after : List ℕ) → Finds k right size (Two b a) was by after → Finds k right size (Two a b) was by after
either_way k right size a b was by after h = subst (λ out. (m : Meaning) → Gathered k right size out m was → Found k right size out m by after) (fun_ext (λ c. swap (eqb b c) (eqb a c))) h
  where
    swap : (x y : Bool) → x || y ≡ y || x
    swap true true = refl
    swap true false = refl
    swap false true = refl
    swap false false = refl
