-- Texts that are added to a line, one behind the other.
use Rattle.std.proofs.Common.{◌≡◌, ℕ, ◌+◌, ◌≤◌, List, ◌++◌, length, take, drop, sym, refl, ap, ◌∙◌, append_assoc, arith, length-append, length-drop, length-take-le}
use borrow.Rule.Slice.PartMut.{put_mid}
use Rattle.std.proofs.lemmas.List.Edits.{paste_all}
use Rattle.std.proofs.lemmas.List.{take-append-drop, take_at, drop_at, drop-drop}
use Rattle.std.proofs.lemmas.Slice.{put_mid-paste}
use Rattle.lab.specs.declared.line.Line.{Line}
use Rattle.lab.specs.Lines.{onto}
use Rattle.lab.specs.Pushes.{Pushes}

-- ---- one text

-- a part of a buffer, copied over from a text
module _ (was text part : List ℕ) (at n end : ℕ) (room : at + length text ≤ length was) (same : part ≡ text) (long : n ≡ length text) (to : end ≡ at + length text) where
  pasted : put_mid at n was part ≡ (take at was ++ text) ++ drop end was
  pasted =
      put_mid-paste at n was part text (length text) same (sym long) refl ∙ paste_all was at text (length text) refl
      ∙ sym (append_assoc (take at was) text (drop (at + length text) was)) ∙ ap (λ k. (take at was ++ text) ++ drop k was) (sym to)

  reach : length (take at was ++ text) ≡ end
  reach = length-append (take at was) text ∙ ap (λ k. k + length text) (length-take-le at was (omega arith)) ∙ sym to

  pub pasted_front : take end (put_mid at n was part) ≡ take at was ++ text
  pasted_front = ap (take end) pasted ∙ take_at (take at was ++ text) (drop end was) end reach

  pub pasted_length : length (put_mid at n was part) ≡ length was
  pasted_length = omega (arith, ap length pasted, length-append (take at was ++ text) (drop end was), reach, length-drop end was)

  pub pasted_rest : drop end (put_mid at n was part) ≡ drop end was
  pasted_rest = ap (drop end) pasted ∙ drop_at (take at was ++ text) (drop end was) end reach

-- ---- one behind the other

pub both : {a b c : Line} {m n : ℕ} {x y : List ℕ} → Pushes a m x b → Pushes b n y c → Pushes a (m + n) (x ++ y) c
both {a} {b} {c} {x = x} {y = y} p q =
    let behind : (buffer : List ℕ) → drop c.len buffer ≡ drop (length y) (drop b.len buffer) =
    λ buffer. ap (λ n. drop n buffer) q.len ∙ sym (drop-drop (length y) b.len buffer) in
    record {
      len = omega (arith, length-append x y, p.len, q.len);
      short = omega (arith, length-append x y, p.short, q.short);
      front = q.front ∙ ap (λ t. t ++ y) p.front ∙ append_assoc (take a.len a.buffer.now) x y;
      rest = q.rest ∙ behind b.buffer.now ∙ ap (drop (length y)) p.rest ∙ sym (behind a.buffer.now);
      long = q.long ∙ p.long;
      same = q.same ∙ p.same;
    }

-- an equal text, and a bound that is no lower
pub written_as : {a b : Line} {m n : ℕ} {x y : List ℕ} → x ≡ y → m ≤ n → Pushes a m x b → Pushes a n y b
written_as {a} e more p =
    record {
      len = p.len ∙ ap (λ t. a.len + length t) e;
      short = omega (arith, ap length e, p.short);
      front = p.front ∙ ap (λ t. take a.len a.buffer.now ++ t) e;
      rest = p.rest;
      long = p.long;
      same = p.same;
    }

-- a text that was added to an empty line
pub whole : {a b : Line} {n : ℕ} {x : List ℕ} → a.len ≡ 0 → Pushes a n x b → (b.len ≡ length x) × (b.buffer.now ≡ onto x a.buffer.now)
whole {a} {b} {x = x} empty p =
    let len : b.len ≡ length x = omega (arith, p.len) in (
      len,
      sym (take-append-drop b.len b.buffer.now) ∙ ap (λ t. t ++ drop b.len b.buffer.now) (p.front ∙ ap (λ n. take n a.buffer.now ++ x) empty)
          ∙ ap (λ t. x ++ t) (p.rest ∙ ap (λ n. drop n a.buffer.now) len),
    )
