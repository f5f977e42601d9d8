-- One block of a data column that alone is out, by its row or by its line.
use Rattle.std.proofs.Common.{◌≡◌, ℕ, zero, suc, ◌+◌, ◌*◌, ◌<◌, Bool, true, false, cond, not, ◌&&◌, ◌||◌, eqb, ◌≢◌, List, length, get_or, sym, refl, ap, ◌∙◌, subst, ap₂, subst₂, true≢false, zero-add, zero-mul, arith, eqb-true}
use mathlib.Core.Bool.{beq}
use lib.Bits.{bit_xor, xor_assoc, xor_self, xor_zero_r}
use borrow.Author.Tests.{eq-true, ne_false}
use Rattle.tray.specs.Meaning.{Meaning, tallied}
use Rattle.code.specs.Numbers.{only, xorsum}
use Rattle.code.specs.Code.{Blocks, Rule, rows, dark, gives, beside}
use Rattle.code.specs.Neighbours.{Tournament}
use Rattle.code.specs.Lines.{takes}
use Rattle.code.proofs.Xor.{only_xor, only_true, only_false, sum_same, sum_xor, sum_one}
use Rattle.law.specs.Holding.{held, Calm}
use Rattle.law.specs.Hand.{others, by_row, with_row, Bytes}
use Rattle.shelf.specs.Blocks.{Ready}
use Rattle.shelf.specs.Slots.{slot, SlotAdded}
use Rattle.shelf.specs.Regaining.{Alone, BytesAdded, wants, taken}
use Rattle.shelf.proofs.Regaining.{may_read}

-- ---- trays that differ in tallies alone

pub calm_refl : (m : Meaning) → Calm m m
calm_refl m = record { frame = record { shape = record { wide = refl; tall = refl; deep = refl }; answers = refl }; block = refl }

pub calm_read : (m m' : Meaning) (c : ℕ) → m' ≡ tallied m c → Calm m m'
calm_read m m' c e =
    subst (λ x. Calm m x) (sym e) (record { frame = record { shape = record { wide = refl; tall = refl; deep = refl }; answers = refl }; block = refl })

pub calm_then : (m m' m'' : Meaning) → Calm m m' → Calm m' m'' → Calm m m''
calm_then m m' m'' p q =
    record {
      frame = record {
        shape = record {
          wide = q.frame.shape.wide ∙ p.frame.shape.wide;
          tall = q.frame.shape.tall ∙ p.frame.shape.tall;
          deep = q.frame.shape.deep ∙ p.frame.shape.deep;
        };
        answers = q.frame.answers ∙ p.frame.answers;
      };
      block = q.block ∙ p.block;
    }

pub alone_calm : (k size s : ℕ) (m m' : Meaning) (j : ℕ) → s ≡ size → Calm m m' → Alone k size m j → Alone k s m' j
alone_calm k size s m m' j e p a =
    record {
      column = a.column;
      heard = record {
        shape = record {
          wide = p.frame.shape.wide ∙ a.heard.shape.wide;
          tall = p.frame.shape.tall ∙ a.heard.shape.tall;
          deep = p.frame.shape.deep ∙ a.heard.shape.deep ∙ sym e;
        };
        answers = λ c l o. ap (λ f. f c) p.frame.answers ∙ a.heard.answers c l o;
      };
    }

-- they hold the same
pub calm_held : (m m' : Meaning) → Calm m m' → held m' ≡ held m
calm_held m m' p = let h : (ℕ → ℕ → List ℕ) → ℕ → Blocks = λ f b r c. get_or (f c r) b 0 in ap h p.block

-- a block of another column may be read of each of them
pub may_read_calm : (k size : ℕ) (m m' : Meaning) (j : ℕ) → Calm m m' → Alone k size m j
    → (c i n : ℕ) → c < k + 2 → c ≢ j → i < rows k → n ≡ size → Ready m' c i n
may_read_calm k size m m' j p a = may_read k size m' j (alone_calm k size size m m' j refl p a)

-- ---- blocks

-- a block is a work space of one slot
pub one_slot : (size : ℕ) (was x after : List ℕ) → SlotAdded size was 0 x after → BytesAdded size was (λ b. get_or x b 0) after
unfolding slot only
one_slot size was x after h b bl = ap (λ i. get_or after i 0) (sym (first b)) ∙ h 0 b bl ∙ ap (λ i. bit_xor (get_or was i 0) (get_or x b 0)) (first b)
  where
    first : (b : ℕ) → 0 * size + b ≡ b
    first b = ap (λ n. n + b) (zero-mul size) ∙ zero-add b

module _ (size : ℕ) (was : List ℕ) where
  pub bytes_none : (f : ℕ → ℕ) → ((b : ℕ) → f b ≡ 0) → BytesAdded size was f was
  bytes_none f z b bl = sym (ap (bit_xor (get_or was b 0)) (z b) ∙ xor_zero_r (get_or was b 0))

  pub bytes_more : (f g h : ℕ → ℕ) (mid after : List ℕ) → ((b : ℕ) → bit_xor (f b) (g b) ≡ h b)
      → BytesAdded size was f mid → BytesAdded size mid g after → BytesAdded size was h after
  bytes_more f g h mid after e p q b bl =
      q b bl ∙ ap (λ x. bit_xor x (g b)) (p b bl) ∙ xor_assoc (get_or was b 0) (f b) (g b) ∙ ap (bit_xor (get_or was b 0)) (e b)

-- a block with bytes added to it, by what the sums are
pub bytes_all : (s size : ℕ) (was after : List ℕ) (f h : ℕ → ℕ) → s ≡ size → length after ≡ size → ((b : ℕ) → bit_xor (get_or was b 0) (f b) ≡ h b)
    → BytesAdded s was f after → Bytes size after h
bytes_all s size was after f h e l sums p = record { long = l; each = λ b bl. p b (omega arith) ∙ sums b }

-- added as another tray with the same blocks holds it
pub bytes_calm : (F : (ℕ → Blocks) → ℕ → ℕ) (m m' : Meaning) (s size : ℕ) (was after : List ℕ) → Calm m m' → s ≡ size
    → BytesAdded s was (F (held m')) after → BytesAdded size was (F (held m)) after
bytes_calm F m m' s size was after p e q = subst₂ (λ x h. BytesAdded x was (F h) after) e (calm_held m m' p) q

-- ---- what a line takes in a row

-- the lost column's block is not wanted
pub wants_other : (right : Rule) (i t j c : ℕ) → wants right i t j c ≡ true → c ≢ j
unfolding wants
wants_other right i t j c h e = true≢false (sym h ∙ ap (λ b. not b && not (beq (takes right i t c) (takes right i t j))) (sym (eq-true c j e)))

only_sum : (d : Bool) (n : ℕ) (f : ℕ → ℕ) → only d (xorsum n f) ≡ xorsum n (λ c. only d (f c))
unfolding only xorsum
only_sum true n f = refl
only_sum false zero f = refl
only_sum false (suc n) f = ap (λ x. bit_xor x 0) (only_sum false n f)

module _ (k : ℕ) (right : Rule) (law : Tournament k right) (i t : ℕ) (tk : t < k) where
  -- column by column
  gives_taken : (D : Blocks) → gives k right D i t ≡ xorsum k (λ c. only (takes right i t c) (D i c))
  unfolding gives beside takes only
  gives_taken D =
      ap₂ bit_xor
      (ap (λ b. cond b (D i t) 0) (eq-true t t refl)
      ∙ sym (sum_one k (λ c. only (eqb t c) (D i c)) t tk (λ c _ n. only_false (eqb t c) (D i c) (sym (ne_false t c (λ e. n (sym e)))))))
      (only_sum (dark i t) k (λ c. only (right t c) (D i c)))
      ∙ sym (sum_xor k (λ c. only (eqb t c) (D i c)) (λ c. only (dark i t) (only (right t c) (D i c))))
      ∙ sum_same k (λ c. bit_xor (only (eqb t c) (D i c)) (only (dark i t) (only (right t c) (D i c)))) (λ c. only (eqb t c || (dark i t && right t c)) (D i c))
      (λ c _. both (eqb t c) (dark i t) (right t c) (D i c) (λ e. ap (right t) (sym (eqb-true t c e)) ∙ law.not_own t tk))
    where
      both : (own d r : Bool) (x : ℕ) → (own ≡ true → r ≡ false) → bit_xor (only own x) (only d (only r x)) ≡ only (own || (d && r)) x
      both true d true x h = absurd (true≢false (h refl))
      both true true false x h = xor_zero_r x
      both true false false x h = xor_zero_r x
      both false true r x h = refl
      both false false r x h = refl

  module _ (M : Blocks) (j : ℕ) (jk : j < k) where
    -- the lost column apart
    apart : (c : ℕ) → only (takes right i t c) (with_row k M j i c) ≡ bit_xor (only (eqb c j) (only (takes right i t j) (by_row k M j i))) (only (not (eqb c j)) (only (takes right i t c) (M i c)))
    unfolding with_row only
    apart c = go (eqb c j) refl
      where
        go : (b : Bool) → eqb c j ≡ b
            → only (takes right i t c) (cond b (by_row k M j i) (M i c)) ≡ bit_xor (only b (only (takes right i t j) (by_row k M j i))) (only (not b) (only (takes right i t c) (M i c)))
        go true e = ap (λ y. only (takes right i t y) (by_row k M j i)) (eqb-true c j e) ∙ sym (xor_zero_r (only (takes right i t j) (by_row k M j i)))
        go false e = refl

    -- with its sum, the others count where just one of the two is taken
    joined : (c : ℕ) → bit_xor (only (takes right i t j) (only (not (eqb c j)) (M i c))) (only (not (eqb c j)) (only (takes right i t c) (M i c))) ≡ only (wants right i t j c) (M i c)
    unfolding wants only
    joined c = go (not (eqb c j)) (takes right i t j) (takes right i t c)
      where
        go : (s o u : Bool) → bit_xor (only o (only s (M i c))) (only s (only u (M i c))) ≡ only (s && not (beq u o)) (M i c)
        go true true true = xor_self (M i c)
        go true true false = xor_zero_r (M i c)
        go true false true = refl
        go true false false = refl
        go false true u = refl
        go false false u = refl

    pub taken_wanted : bit_xor (only (takes right i t j) (M i k)) (xorsum k (λ c. only (wants right i t j c) (M i c))) ≡ taken k right M j i t
    unfolding by_row others
    taken_wanted =
        sym
        (gives_taken (with_row k M j)
        ∙ sum_same k (λ c. only (takes right i t c) (with_row k M j i c)) (λ c. bit_xor (only (eqb c j) (only (takes right i t j) (by_row k M j i))) (only (not (eqb c j)) (only (takes right i t c) (M i c)))) (λ c _. apart c)
        ∙ sum_xor k (λ c. only (eqb c j) (only (takes right i t j) (by_row k M j i))) (λ c. only (not (eqb c j)) (only (takes right i t c) (M i c)))
        ∙ ap (λ x. bit_xor x (xorsum k (λ c. only (not (eqb c j)) (only (takes right i t c) (M i c))))) lost
        ∙ xor_assoc (only (takes right i t j) (M i k)) (xorsum k (λ c. only (takes right i t j) (only (not (eqb c j)) (M i c)))) (xorsum k (λ c. only (not (eqb c j)) (only (takes right i t c) (M i c))))
        ∙ ap (bit_xor (only (takes right i t j) (M i k)))
        (sym (sum_xor k (λ c. only (takes right i t j) (only (not (eqb c j)) (M i c))) (λ c. only (not (eqb c j)) (only (takes right i t c) (M i c))))
        ∙ sum_same k (λ c. bit_xor (only (takes right i t j) (only (not (eqb c j)) (M i c))) (only (not (eqb c j)) (only (takes right i t c) (M i c)))) (λ c. only (wants right i t j c) (M i c)) (λ c _. joined c)))
      where
        lost : xorsum k (λ c. only (eqb c j) (only (takes right i t j) (by_row k M j i))) ≡ bit_xor (only (takes right i t j) (M i k)) (xorsum k (λ c. only (takes right i t j) (only (not (eqb c j)) (M i c))))
        lost =
            sum_one k (λ c. only (eqb c j) (only (takes right i t j) (by_row k M j i))) j jk (λ c _ n. only_false (eqb c j) (only (takes right i t j) (by_row k M j i)) (sym (ne_false c j n)))
            ∙ only_true (eqb j j) (only (takes right i t j) (by_row k M j i)) (sym (eq-true j j refl))
            ∙ only_xor (takes right i t j) (M i k) (xorsum k (λ c. only (not (eqb c j)) (M i c)))
            ∙ ap (bit_xor (only (takes right i t j) (M i k))) (only_sum (takes right i t j) k (λ c. only (not (eqb c j)) (M i c)))
