-- One step of the solver: a row of which all rows of lower rank are settled is settled.
use Rattle.std.proofs.Common.{◌≡◌, ℕ, ◌<◌, Bool, true, false, cond, not, ◌&&◌, ◌||◌, eqb, ◌≢◌, List, sym, refl, ap, ◌∙◌, subst, ap₂, true≢false, arith, eqb-true}
use native.Mathlib.Decide.{ℕ_discrete, dec_lt}
use lib.Bits.{bit_xor, xor_assoc, xor_zero_r}
use borrow.Author.Tests.{eq-true, ne_false}
use Rattle.code.specs.Numbers.{only}
use Rattle.code.specs.Code.{Blocks, Rule, spot, rows, dark, meets, horizontal, butterfly, value}
use Rattle.code.specs.Neighbours.{Tournament}
use Rattle.code.specs.Lines.{takes, holds}
use Rattle.code.specs.Laws.{whites, rank}
use Rattle.code.proofs.Xor.{xor_eq_zero, only_true, only_false, sum_two}
use Rattle.code.proofs.Rows.{back, meets_lt}
use Rattle.code.proofs.Linear.{difference, butterfly_same, butterfly_xor}
use Rattle.code.proofs.Lost.{one_step, two_step, rank_whites}
use Rattle.code.proofs.Put.{any_none, one_column, line_spot}
use Rattle.shelf.specs.Slots.{row_slot, line_slot, holds_but}
use Rattle.shelf.specs.Solving.{Settled, unknown, Solving, Pair}
use Rattle.shelf.proofs.Holding.{past}
use Rattle.shelf.proofs.Gathering.{line_none}

and_off : (b : Bool) → b && false ≡ false
and_off true = refl
and_off false = refl

and_on : (b : Bool) → b && true ≡ b
and_on true = refl
and_on false = refl

module _ (k : ℕ) (right : Rule) (law : Tournament k right) (none_right : (t : ℕ) → right t k ≡ false) (p q : ℕ) (pair : Pair k right p q) where
  pk : p < k
  pk = pair.first

  -- column p is no right neighbour of q's side: the line through (v, p) does not take (v, q)
  not_right : right p q ≡ false
  not_right =
      elim (dec_lt q k) [
        | yes l ↦ law.one_way p q pk l pair.apart ∙ ap not (pair.neighbour l)
        | no h ↦ ap (right p) (last h) ∙ none_right p
      ]
    where
      last : (q < k → ⊥) → q ≡ k
      last h = let s = pair.second in omega arith

  -- ---- what is unknown in a row is what its line has

  step : (X : Blocks) → ((i c : ℕ) → i < rows k → c < k → c ≢ p → c ≢ q → X i c ≡ 0) → ((i : ℕ) → i < rows k → q < k → X i p ≡ X i q)
      → (v : ℕ) → v < rows k → ((u : ℕ) → u < rows k → rank k p q u < rank k p q v → X u p ≡ 0) → X v p ≡ butterfly k right X (meets v p)
  unfolding horizontal
  step X off twin v l ih =
      elim (dec_lt q k) [
        | yes qk ↦
            two_step k right law X p q pk qk pair.apart (pair.neighbour qk) off
            (λ i il. sum_two k (X i) p q pk qk pair.apart (λ j jk n m. off i j il jk n m) ∙ xor_eq_zero (X i p) (X i q) (twin i il qk)) v l ih
        | no h ↦
            let e : q ≡ k = let s = pair.second in omega arith in
            one_step k right law X p pk (λ i c il ck n. off i c il ck n (omega arith)) v l
            (λ u ul lt. ih u ul (rank_whites k p q u v (subst (λ x. whites k p x u < whites k p x v) (sym e) lt)))
      ]

  -- ---- what is unknown

  module _ (done : ℕ → Bool) (D : Blocks) where
    abbrev X : Blocks
    X = unknown done p q D

    off : (i c : ℕ) → c ≢ p → c ≢ q → X i c ≡ 0
    unfolding unknown
    off i c n m = ap₂ (λ s t. only ((s || t) && not (done i)) (D i p)) (sym (ne_false c p n)) (sym (ne_false c q m)) ∙ only_false false (D i p) refl

    at_p : (i : ℕ) → X i p ≡ only (not (done i)) (D i p)
    unfolding unknown
    at_p i = ap (λ s. only ((s || eqb p q) && not (done i)) (D i p)) (sym (eq-true p p refl))

    at_q : (i : ℕ) → X i q ≡ only (not (done i)) (D i p)
    unfolding unknown
    at_q i = ap (λ s. only ((eqb q p || s) && not (done i)) (D i p)) (sym (eq-true q q refl)) ∙ ap (λ s. only (s && not (done i)) (D i p)) (or_on (eqb q p))
      where
        or_on : (b : Bool) → b || true ≡ true
        or_on true = refl
        or_on false = refl

    -- the step, where all rows of lower rank than v are settled
    unknown_step : (v : ℕ) → v < rows k → ((u : ℕ) → u < rows k → rank k p q u < rank k p q v → done u ≡ true) → X v p ≡ butterfly k right X (meets v p)
    unknown_step v l lower =
        step X (λ i c _ _ n m. off i c n m) (λ i _ _. at_p i ∙ sym (at_q i)) v l
        (λ u ul lt. at_p u ∙ only_false (not (done u)) (D u p) (ap not (lower u ul lt)))

  -- ---- the lines that hold a place, the lines of a spot

  -- column k holds no place of a line
  holds_none : (n v : ℕ) → holds k right n v k ≡ false
  unfolding holds takes
  holds_none n v =
      any_none k (λ t. eqb (meets n t) v && (eqb t k || (dark v t && right t k)))
      (λ t tk. ap₂ (λ a b. eqb (meets n t) v && (a || (dark v t && b))) (sym (ne_false t k (omega arith))) (none_right t)
      ∙ ap (λ b. eqb (meets n t) v && b) (and_off (dark v t)) ∙ and_off (eqb (meets n t) v))

  nowhere : (v d i c : ℕ) → c ≢ q → spot v q d i c ≡ 0
  unfolding spot
  nowhere v d i c m = ap (λ b. only (eqb i v && b) d) (sym (ne_false c q m)) ∙ only_false (eqb i v && false) d (and_off (eqb i v))

  lines_of_spot : (v d n : ℕ) → n < rows k → butterfly k right (spot v q d) n ≡ only (holds k right n v q) d
  lines_of_spot v d n nl =
      elim (dec_lt q k) [
        | yes l ↦ line_spot k right law v q d l n
        | no h ↦
            let e : q ≡ k = let s = pair.second in omega arith in
            butterfly_same k right (spot v q d) (λ _ _. 0) (λ i c _ ck. nowhere v d i c (omega arith)) n nl
            ∙ line_none k right (λ _ _. 0) (λ _ _. refl) n
            ∙ sym (ap (λ x. only (holds k right n v x) d) e ∙ only_false (holds k right n v k) d (holds_none n v))
      ]

  -- of the lines that hold (v, p), the one through it is passed over; of those that hold (v, q), none
  but_p : (v n : ℕ) → n ≢ meets v p → holds_but k right v p p n ≡ holds k right n v p
  unfolding holds_but
  but_p v n d = ap (λ b. holds k right n v p && not b) (sym (ne_false n (meets v p) d)) ∙ and_on (holds k right n v p)

  but_own : (v : ℕ) → holds_but k right v p p (meets v p) ≡ false
  unfolding holds_but
  but_own v = ap (λ b. holds k right (meets v p) v p && not b) (sym (eq-true (meets v p) (meets v p) refl)) ∙ and_off (holds k right (meets v p) v p)

  but_q : (v n : ℕ) → v < rows k → n < rows k → holds_but k right v q k n ≡ holds k right n v q
  unfolding holds_but
  but_q v n vl nl = ap (λ b. holds k right n v q && not b) (sym (ne_false n (meets v k) (past k v n (omega arith) vl nl))) ∙ and_on (holds k right n v q)

  -- the line through (v, p) does not hold (v, q)
  not_held : (v : ℕ) → holds k right (meets v p) v q ≡ false
  unfolding holds takes
  not_held v = any_none k (λ t. eqb (meets (meets v p) t) v && (eqb t q || (dark v t && right t q))) (λ t _. go t (eqb (meets (meets v p) t) v) refl)
    where
      go : (t : ℕ) (b : Bool) → eqb (meets (meets v p) t) v ≡ b → eqb (meets (meets v p) t) v && (eqb t q || (dark v t && right t q)) ≡ false
      go t false e = ap (λ b. b && (eqb t q || (dark v t && right t q))) e
      go t true e =
          let same : t ≡ p = one_column (meets v p) t p (eqb-true (meets (meets v p) t) v e ∙ sym (back v p)) in
          ap (λ b. b && (eqb t q || (dark v t && right t q))) e
          ∙ ap₂ (λ a b. a || (dark v t && b)) (sym (ne_false t q (λ f. pair.apart (sym same ∙ f)))) (ap (λ x. right x q) same ∙ not_right)
          ∙ and_off (dark v t)

  -- ---- settling row v

  module _ (done : ℕ → Bool) (v : ℕ) (vl : v < rows k) (new : done v ≡ false) where
    abbrev done' : ℕ → Bool
    done' u = done u || eqb u v

    others_done : (u : ℕ) → u ≢ v → done u ≡ done' u
    others_done u n = sym (or_off (done u)) ∙ ap (λ b. done u || b) (ne_false u v n)
      where
        or_off : (b : Bool) → b || false ≡ b
        or_off true = refl
        or_off false = refl

    settled_done : done' v ≡ true
    settled_done = ap (λ b. b || eqb v v) new ∙ sym (eq-true v v refl)

    module _ (D : Blocks) where
      abbrev d : ℕ
      d = D v p

      -- the block of row v goes off what is unknown, in both columns
      table : (a b e t : Bool) (x y : ℕ) → (a ≡ true → b ≡ true → ⊥) → (e ≡ true → (t ≡ false) × (x ≡ y))
          → bit_xor (bit_xor (only ((a || b) && not t) x) (only (e && a) y)) (only (e && b) y) ≡ only ((a || b) && not (t || e)) x
      unfolding only
      table true true e t x y h g = absurd (h refl refl)
      table true false true t x y h g = ap (λ s. bit_xor (bit_xor (cond (not s) x 0) y) 0) (g refl).0 ∙ xor_zero_r (bit_xor x y) ∙ xor_eq_zero x y (g refl).1 ∙ ap (λ s. cond (not (s || true)) x 0) (sym (g refl).0)
      table true false false t x y h g = xor_zero_r (bit_xor (cond (not t) x 0) 0) ∙ xor_zero_r (cond (not t) x 0) ∙ ap (λ s. cond (not s) x 0) (sym (or_off t))
        where
          or_off : (b : Bool) → b || false ≡ b
          or_off true = refl
          or_off false = refl
      table false true true t x y h g = ap (λ s. bit_xor (bit_xor (cond (not s) x 0) 0) y) (g refl).0 ∙ ap (λ z. bit_xor z y) (xor_zero_r x) ∙ xor_eq_zero x y (g refl).1 ∙ ap (λ s. cond (not (s || true)) x 0) (sym (g refl).0)
      table false true false t x y h g = xor_zero_r (bit_xor (cond (not t) x 0) 0) ∙ xor_zero_r (cond (not t) x 0) ∙ ap (λ s. cond (not s) x 0) (sym (or_off t))
        where
          or_off : (b : Bool) → b || false ≡ b
          or_off true = refl
          or_off false = refl
      table false false true t x y h g = refl
      table false false false t x y h g = refl

      less : (i c : ℕ) → bit_xor (bit_xor (unknown done p q D i c) (spot v p d i c)) (spot v q d i c) ≡ unknown done' p q D i c
      unfolding unknown spot
      less i c =
          table (eqb c p) (eqb c q) (eqb i v) (done i) (D i p) (D v p) (λ a b. pair.apart (sym (eqb-true c p a) ∙ eqb-true c q b))
          (λ e. (ap done (eqb-true i v e) ∙ new, ap (λ x. D x p) (eqb-true i v e)))

      lines_less : (n : ℕ) → n < rows k
          → butterfly k right (unknown done' p q D) n ≡ bit_xor (bit_xor (butterfly k right (unknown done p q D) n) (only (holds k right n v p) d)) (only (holds k right n v q) d)
      lines_less n nl =
          sym (butterfly_same k right (difference (difference (unknown done p q D) (spot v p d)) (spot v q d)) (unknown done' p q D) (λ i c _ _. less i c) n nl)
          ∙ butterfly_xor k right (difference (unknown done p q D) (spot v p d)) (spot v q d) n
          ∙ ap₂ bit_xor (butterfly_xor k right (unknown done p q D) (spot v p d) n ∙ ap (bit_xor (butterfly k right (unknown done p q D) n)) (line_spot k right law v p d pk n)) (lines_of_spot v d n nl)

      -- a row that was settled before keeps its block: its line has nothing unknown, before and after
      module _ (closed : (u w : ℕ) → u < rows k → w < rows k → done u ≡ true → rank k p q w < rank k p q u → done w ≡ true) where
        empty : (u : ℕ) → u < rows k → done u ≡ true → butterfly k right (unknown done p q D) (meets u p) ≡ 0
        empty u ul t =
            sym (unknown_step done D u ul (λ w wl lt. closed u w ul wl t lt)) ∙ at_p done D u ∙ only_false (not (done u)) (D u p) (ap not t)

        empty' : (u : ℕ) → u < rows k → u ≢ v → done u ≡ true → butterfly k right (unknown done' p q D) (meets u p) ≡ 0
        empty' u ul n t =
            sym (unknown_step done' D u ul (λ w wl lt. still w (closed u w ul wl t lt))) ∙ at_p done' D u ∙ only_false (not (done' u)) (D u p) (ap not (sym (others_done u n) ∙ t))
          where
            still : (w : ℕ) → done w ≡ true → done' w ≡ true
            still w e = or_true (done w) (eqb w v) e
              where
                or_true : (a b : Bool) → a ≡ true → a || b ≡ true
                or_true a b e = ap (λ x. x || b) e

        cancels : (u : ℕ) → u < rows k → u ≢ v → done u ≡ true → bit_xor (only (holds k right (meets u p) v p) d) (only (holds k right (meets u p) v q) d) ≡ 0
        cancels u ul n t =
            let m = meets u p in
            sym (ap (λ x. bit_xor (bit_xor x (only (holds k right m v p) d)) (only (holds k right m v q) d)) (empty u ul t))
            ∙ sym (lines_less m (meets_lt k u p ul pk)) ∙ empty' u ul n t

  -- ---- the work space

  -- settled rows that are the same
  pub solving_same : (size : ℕ) (D : ℕ → Blocks) (done done' : ℕ → Bool) (work : List ℕ) → ((u : ℕ) → u < rows k → done u ≡ done' u)
      → Solving k right size p q D done work → Solving k right size p q D done' work
  unfolding unknown
  solving_same size D done done' work e s =
      record {
        row = λ b r bl rl. s.row b r bl rl ∙ ap (λ x. bit_xor (value k right (D b) q r) (only (not x) (D b r p))) (e r rl);
        sought = λ b r bl rl f. s.sought b r bl rl (e r rl ∙ f)
            ∙ butterfly_same k right (unknown done p q (D b)) (unknown done' p q (D b)) (λ i c il _. ap (λ x. only ((eqb c p || eqb c q) && not x) (D b i p)) (e i il)) (meets r p) (meets_lt k r p rl pk);
        found = λ b r bl rl f. s.found b r bl rl (e r rl ∙ f);
      }

  -- the rows below v and v itself, or rows that come before others
  module _ (size : ℕ) (D : ℕ → Blocks) (done : ℕ → Bool) (v : ℕ) (vl : v < rows k) (new : done v ≡ false)
      (lower : (u : ℕ) → u < rows k → rank k p q u < rank k p q v → done u ≡ true)
      (closed : (u w : ℕ) → u < rows k → w < rows k → done u ≡ true → rank k p q w < rank k p q u → done w ≡ true)
      (was after : List ℕ) (s : Settled k right size p q v was after) (old : Solving k right size p q D done was) where
    -- what the line of row v holds is its block of column p
    block : (b : ℕ) → b < size → line_slot k size was b (meets v p) ≡ D b v p
    block b bl = old.sought b v bl vl new ∙ sym (unknown_step done (D b) v vl lower) ∙ at_p done (D b) v ∙ only_true (not (done v)) (D b v p) (ap not new)

    row : (b r : ℕ) → b < size → r < rows k → row_slot size after b r ≡ bit_xor (value k right (D b) q r) (only (not (done r || eqb r v)) (D b r p))
    row b r bl rl =
        s.row b r bl rl ∙ ap₂ (λ x y. bit_xor x (only (eqb r v) y)) (old.row b r bl rl) (block b bl)
        ∙ elim (ℕ_discrete r v) [
          | yes e ↦
              xor_assoc (value k right (D b) q r) (only (not (done r)) (D b r p)) (only (eqb r v) (D b v p))
              ∙ ap (bit_xor (value k right (D b) q r))
              (xor_eq_zero _ _ (only_true (not (done r)) (D b r p) (ap not (ap done e ∙ new)) ∙ ap (λ x. D b x p) e ∙ sym (only_true (eqb r v) (D b v p) (sym (eq-true r v e))))
              ∙ sym (only_false (not (done r || eqb r v)) (D b r p) (ap not (ap (λ x. done x || eqb x v) e ∙ settled_done done v vl new))))
          | no n ↦
              ap (bit_xor (bit_xor (value k right (D b) q r) (only (not (done r)) (D b r p)))) (only_false (eqb r v) (D b v p) (sym (ne_false r v n)))
              ∙ xor_zero_r (bit_xor (value k right (D b) q r) (only (not (done r)) (D b r p)))
              ∙ ap (λ x. bit_xor (value k right (D b) q r) (only (not x) (D b r p))) (others_done done v vl new r n)
        ]

    -- rows on other lines
    apart : (r : ℕ) → r ≢ v → meets r p ≢ meets v p
    apart r n e = n (sym (back r p) ∙ ap (λ x. meets x p) e ∙ back v p)

    other_line : (b r : ℕ) → b < size → r < rows k → r ≢ v
        → line_slot k size after b (meets r p) ≡ bit_xor (line_slot k size was b (meets r p)) (bit_xor (only (holds k right (meets r p) v p) (D b v p)) (only (holds k right (meets r p) v q) (D b v p)))
    other_line b r bl rl n =
        s.line b (meets r p) bl (meets_lt k r p rl pk)
        ∙ ap (λ x. bit_xor (line_slot k size was b (meets r p)) (bit_xor (only (holds_but k right v p p (meets r p)) x) (only (holds_but k right v q k (meets r p)) x))) (block b bl)
        ∙ ap₂ (λ x y. bit_xor (line_slot k size was b (meets r p)) (bit_xor (only x (D b v p)) (only y (D b v p)))) (but_p v (meets r p) (apart r n)) (but_q v (meets r p) vl (meets_lt k r p rl pk))

    own_line : (b : ℕ) → b < size → line_slot k size after b (meets v p) ≡ D b v p
    own_line b bl =
        s.line b (meets v p) bl (meets_lt k v p vl pk)
        ∙ ap₂ (λ x y. bit_xor (line_slot k size was b (meets v p)) (bit_xor x y))
        (only_false (holds_but k right v p p (meets v p)) (line_slot k size was b (meets v p)) (but_own v))
        (only_false (holds_but k right v q k (meets v p)) (line_slot k size was b (meets v p)) (but_q v (meets v p) vl (meets_lt k v p vl pk) ∙ not_held v))
        ∙ xor_zero_r (line_slot k size was b (meets v p)) ∙ block b bl

    pub settle_step : Solving k right size p q D (λ u. done u || eqb u v) after
    settle_step =
        record {
          row = row;
          sought = λ b r bl rl e.
              other_line b r bl rl (unsettled r e)
              ∙ ap (λ x. bit_xor x (bit_xor (only (holds k right (meets r p) v p) (D b v p)) (only (holds k right (meets r p) v q) (D b v p)))) (old.sought b r bl rl (others_done done v vl new r (unsettled r e) ∙ e))
              ∙ sym (xor_assoc (butterfly k right (unknown done p q (D b)) (meets r p)) (only (holds k right (meets r p) v p) (D b v p)) (only (holds k right (meets r p) v q) (D b v p)))
              ∙ sym (lines_less done v vl new (D b) (meets r p) (meets_lt k r p rl pk));
          found = λ b r bl rl e. elim (ℕ_discrete r v) [
            | yes f ↦ ap (λ x. line_slot k size after b (meets x p)) f ∙ own_line b bl ∙ ap (λ x. D b x p) (sym f)
            | no n ↦
                other_line b r bl rl n
                ∙ ap (bit_xor (line_slot k size was b (meets r p))) (cancels done v vl new (D b) closed r rl n (others_done done v vl new r n ∙ e))
                ∙ xor_zero_r (line_slot k size was b (meets r p)) ∙ old.found b r bl rl (others_done done v vl new r n ∙ e)
          ];
        }
      where
        unsettled : (r : ℕ) → (done r || eqb r v) ≡ false → r ≢ v
        unsettled r e f = true≢false (sym (ap (λ x. done x || eqb x v) f ∙ settled_done done v vl new) ∙ e)
