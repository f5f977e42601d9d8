-- One call on the bench after another.
use Rattle.std.proofs.Common.{◌≡◌, ℕ, ◌+◌, ◌<◌, eqb, get_or, refl, ◌∙◌}
use lib.Bits.{bit_xor}
use Rattle.code.specs.Code.{rows}
use Rattle.shelf.specs.declared.bench.Bench.{Bench}
use Rattle.code.specs.Numbers.{only}
use Rattle.shelf.specs.Slots.{Plus, nothing}
use Rattle.shelf.specs.Benches.{Kept, SlotAdds, Adds, size_of}
use Rattle.shelf.proofs.Adding.{plus_none, plus_same, plus_plus, plus_row, plus_line}

pub kept_none : (s : Bench) → Kept s s
kept_none s = record { width = refl; size = refl; room = refl; block-lender = refl; work-lender = refl }

pub kept_then : (a b c : Bench) → Kept a b → Kept b c → Kept a c
kept_then a b c p q =
    record { width = q.width ∙ p.width; size = q.size ∙ p.size; room = q.room ∙ p.room; block-lender = q.block-lender ∙ p.block-lender; work-lender = q.work-lender ∙ p.work-lender }

pub adds_none : (f : ℕ → ℕ → ℕ) (s : Bench) → ((b n : ℕ) → nothing b n ≡ f b n) → Adds nothing f s s
adds_none f s e =
    record {
      kept = kept_none s;
      block = refl;
      work = plus_same _ _ _ nothing nothing nothing f _ (λ _ _ _ _. refl) (λ b n _ _. e b n) (plus_none s.k.number (size_of s) s.work.now);
    }

-- what is added next, said with the width and the block of the first bench
pub adds_then : (g f g' f' : ℕ → ℕ → ℕ) (a b c : Bench) → Adds g f a b → Kept b c → c.block.now ≡ b.block.now → Plus a.k.number (size_of a) b.work.now g' f' c.work.now
    → Adds (λ b r. bit_xor (g b r) (g' b r)) (λ b n. bit_xor (f b n) (f' b n)) a c
adds_then g f g' f' a b c p kept block q =
    record {
      kept = kept_then a b c p.kept kept;
      block = block ∙ p.block;
      work = plus_plus a.k.number (size_of a) a.work.now g f g' f' b.work.now c.work.now p.work q;
    }

pub adds_same : (g f g' f' : ℕ → ℕ → ℕ) (a b : Bench) → ((b r : ℕ) → r < rows a.k.number → g b r ≡ g' b r) → ((b n : ℕ) → n < rows a.k.number → f b n ≡ f' b n)
    → Adds g f a b → Adds g' f' a b
adds_same g f g' f' a b eg ef p =
    record {
      kept = p.kept;
      block = p.block;
      work = plus_same a.k.number (size_of a) a.work.now g f g' f' b.work.now (λ b r _ l. eg b r l) (λ b n _ l. ef b n l) p.work;
    }

-- the block was added to the slot of a row or of a line
pub adds_row : (i : ℕ) (a b : Bench) → i < rows a.k.number → SlotAdds i a b → Adds (λ b r. only (eqb r i) (get_or a.block.now b 0)) nothing a b
adds_row i a b l h = record { kept = h.kept; block = h.block; work = plus_row a.k.number (size_of a) a.work.now a.block.now b.work.now i l h.work }

pub adds_line : (n s : ℕ) (a b : Bench) → s ≡ rows a.k.number + n → SlotAdds s a b → Adds nothing (λ b m. only (eqb m n) (get_or a.block.now b 0)) a b
adds_line n s a b e h = record { kept = h.kept; block = h.block; work = plus_line a.k.number (size_of a) a.work.now a.block.now b.work.now n (rw e at h.work) }
