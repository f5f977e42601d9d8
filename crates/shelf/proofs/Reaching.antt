-- What the checks of a get and a put tell, and what a refused call leaves.
use Rattle.std.proofs.Common.{◌≡◌, ℕ, ◌*◌, ◌≤◌, true, false, List, length, Ok, Err, Result, sym, refl, ◌∙◌, subst, arith}
use Rattle.tray.specs.declared.fault.Fault.{Fault}
use Rattle.tray.specs.Meaning.{Meaning, tallied}
use Rattle.code.specs.Code.{rows}
use Rattle.code.specs.Neighbours.{published}
use Rattle.law.specs.Holding.{Calm}
use Rattle.law.specs.Hand.{AtHand}
use Rattle.law.specs.Calls.{Got, Put}
use Rattle.law.specs.Promises.{Spares}
use Rattle.shelf.specs.Missing.{keeps}
use Rattle.shelf.specs.Rosters.{Rostered, out_of}
use Rattle.shelf.specs.Checks.{reaching}
use Rattle.shelf.specs.Promises.{GetsOn, PutsOn}
use Rattle.shelf.specs.Hands.{Reach}
use Rattle.shelf.proofs.Limits.{are_columns-kept}
use Rattle.shelf.proofs.Checked.{reached}

module _ (r : Rostered) (m : Meaning) (c i n : ℕ) (work : List ℕ) (ok : reaching r m c i n (length work) ≡ Ok tt) where
  pub in_reach : keeps r.width r.size r.missing ≡ true → Reach r.width n r.missing m c i work
  in_reach kept =
      let h = reached r m c i n (length work) ok in
      record {
        room = record { large = subst (λ x. 2 * rows r.width * x ≤ length work) (sym h.long) h.room };
        heard = record {
          shape = record { wide = h.sound.shape.wide; tall = h.sound.shape.tall; deep = h.sound.shape.deep ∙ sym h.long };
          answers = h.sound.heard;
        };
        columns = are_columns-kept r kept;
        column = h.column;
        row = h.row;
      }

  pub put_at : (m' : Meaning) (x : List ℕ) → Put r.width (published r.width) n (out_of r) m c i x m' → Put r.width (published r.width) r.size (out_of r) m c i x m'
  put_at m' x p = subst (λ s. Put r.width (published r.width) s (out_of r) m c i x m') (reached r m c i n (length work) ok).long p

  pub got : (v : List ℕ) (m' : Meaning) → AtHand r.width (published r.width) n (out_of r) m i c v → Calm m m'
      → (out_of r c ≡ false → m'.tally ≡ (tallied m c).tally) → Got r.width (published r.width) r.size (out_of r) m c i v m'
  got v m' hand calm one =
      let h = reached r m c i n (length work) ok in
      record {
        column = h.column;
        row = h.row;
        at_hand = subst (λ x. AtHand r.width (published r.width) x (out_of r) m i c v) h.long hand;
        calm = calm;
        one_read = one;
      }

-- ---- refused calls

never : {P : Type 0} (u : Unit {0}) (f : Fault) → ◌≡◌ {A = Result (Unit {0}) Fault} (Ok u) (Err f) → P
never u f e = absurd (let z : ◌≡◌ {A = ℕ} 0 1 = cc in omega arith)

module _ (r : Rostered) (m : Meaning) (c i : ℕ) (f : Fault) where
  pub get_refused : (was : List ℕ) (answer : Result (Unit {0}) Fault) → answer ≡ Err f → GetsOn r m c i was answer was m
  get_refused was (Ok u) e = never u f e
  get_refused was (Err _) e = (refl, refl)

  pub put_refused : (x : List ℕ) (answer : Result (Unit {0}) Fault) → answer ≡ Err f → PutsOn r m c i x answer m
  put_refused x (Ok u) e = never u f e
  put_refused x (Err _) e = refl

pub spared : (f : Fault) (was : List ℕ) (answer : Result (Unit {0}) Fault) → answer ≡ Err f → Spares was answer was
spared f was (Ok u) e = never u f e
spared f was (Err _) e = refl
