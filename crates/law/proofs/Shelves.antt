-- The law of shelves, for every rule of right neighbours that has the tournament law.
use Rattle.std.proofs.Common.{◌≡◌, ℕ, ◌+◌, ◌-◌, ◌^◌, ◌<◌, cond, ◌≢◌, List, ◌∷◌, get_or, Some, None, Option, sym, refl, ap, ◌∙◌, arith, ext_get_or}
use borrow.Author.Tests.{ne_false}
use Rattle.tray.specs.Meaning.{Meaning}
use Rattle.code.specs.Code.{Rule, rows, meets, value}
use Rattle.code.specs.Neighbours.{Tournament, published}
use Rattle.code.specs.Laws.{lane, AgreeOnHalf}
use Rattle.code.proofs.Linear.{value_data, value_horizontal, value_butterfly}
use Rattle.code.proofs.Rows.{meets_lt}
use Rattle.code.proofs.Main.{any_two_blocks, half}
use Rattle.code.proofs.Limits.{law_of_width}
use Rattle.law.specs.Service.{Sole}
use Rattle.law.specs.Holding.{held}
use Rattle.law.specs.Tallies.{reads}
use Rattle.law.specs.Calls.{Swept, PlaceFits}
use Rattle.law.specs.Runs.{Shelf, Event, accepted, rebuild, last_put, missing, Step, Point, between, Run}
use Rattle.law.specs.Law.{SameBut, InServiceBut, SameNamed, Law, LawOfShelves}
use Rattle.law.proofs.Bools.{removed_own}
use Rattle.law.proofs.Hand.{value_same, served_right}
use Rattle.law.proofs.Invariant.{Stands, hand, missing_two, stands}

module _ (k : ℕ) (right : Rule) (law : Tournament k right) (size : ℕ) where
  -- the reads of a rebuild
  half_reads : (calls : List Event) (s s' : Shelf) (j : ℕ) → Stands k right size calls between s → j < k → Sole k (missing calls) j
      → Step k right size s s' (accepted (rebuild j)) → (c : ℕ) → c < k + 2 → c ≢ j → reads s.tray s'.tray c ≡ 2 ^ (k - 2)
  half_reads calls s s' j h jk sole (Step.rebuilds answer p) c cl n =
      p.half jk (record { itself = h.roster j ∙ sole.itself; others = λ x xl d. h.roster x ∙ sole.others x xl d }) c cl
      ∙ ap (λ t. cond t 0 (2 ^ (k - 2))) (sym (ne_false c j n))

  -- a sweep finds nothing
  clean : (calls : List Event) (s : Shelf) → Stands k right size calls between s → (found : Option (ℕ × ℕ)) (m' : Meaning)
      → Swept k right size s.out s.tray found m' → found ≡ None
  clean calls s h None m' p = refl
  clean calls s h (Some q) m' p = absurd (p.finding.misfit fit)
    where
      fit : PlaceFits k right size s.tray q.0 q.1
      fit b bl =
          h.fits q.0 q.1 b p.finding.column (sym (h.roster q.0) ∙ p.all_in q.0 p.finding.column) p.finding.row bl
          ∙ value_same k right (lane (last_put size calls) b) (held s.tray b)
          (λ i j il jk. sym (h.fits j i b (omega arith) (sym (h.roster j) ∙ p.all_in j (omega arith)) il bl ∙ value_data k right (lane (last_put size calls) b) j i jk))
          q.0 q.1 p.finding.column p.finding.row

  -- a rebuilt data column holds the blocks last put
  rebuilt_column : (calls : List Event) (s s' : Shelf) (j : ℕ) → Run k right size calls between s → j < k
      → Step k right size s s' (accepted (rebuild j)) → (i : ℕ) → i < rows k → s'.tray.block j i ≡ last_put size calls i j
  unfolding last_put missing
  rebuilt_column calls s s' j run jk step i il =
      served_right k right law size (missing (accepted (rebuild j) ∷ calls)) (last_put size (accepted (rebuild j) ∷ calls)) s'.tray h.shape s'.sized h.whole h.fits i j il jk
      (removed_own (missing calls) j)
    where
      h : Stands k right size (accepted (rebuild j) ∷ calls) between s'
      h = stands k right law size (Run.calls run step)

  module _ (calls₁ calls₂ : List Event) (at₁ at₂ : Point) (s₁ s₂ : Shelf) (h₁ : Stands k right size calls₁ at₁ s₁) (h₂ : Stands k right size calls₂ at₂ s₂) where
    -- k columns tell all data
    same_told : (p q : ℕ) → p < k + 2 → q < k + 2 → p ≢ q → InServiceBut k p q (missing calls₁) → InServiceBut k p q (missing calls₂)
        → SameBut k p q s₁.tray s₂.tray → (i j : ℕ) → i < rows k → j < k → last_put size calls₁ i j ≡ last_put size calls₂ i j
    same_told p q pl ql d in₁ in₂ e i j il jk =
        any_two_blocks k size right law p q pl ql d (last_put size calls₁) (last_put size calls₂) h₁.whole h₂.whole
        (λ c r b cl n n' rl bl.
        sym (h₁.fits c r b cl (in₁ c cl n n') rl bl) ∙ ap (λ l. get_or l b 0) (e c r cl n n' rl) ∙ h₂.fits c r b cl (in₂ c cl n n') rl bl)
        i j il jk

    -- the blocks named for a data column tell it
    named_told : (j : ℕ) → j < k → Sole k (missing calls₁) j → Sole k (missing calls₂) j → SameNamed k j s₁.tray s₂.tray
        → (i : ℕ) → i < rows k → last_put size calls₁ i j ≡ last_put size calls₂ i j
    named_told j jk sole₁ sole₂ e i il =
        ext_get_or 0 (last_put size calls₁ i j) (last_put size calls₂ i j) (h₁.whole i j il jk ∙ sym (h₂.whole i j il jk))
        (λ b bl. half k right j jk (lane (last_put size calls₁) b) (lane (last_put size calls₂) b) (agree b (omega (arith, h₁.whole i j il jk))) i il)
      where
        across : (c r b : ℕ) → c < k + 2 → c ≢ j → r < rows k → b < size → s₁.tray.block c r ≡ s₂.tray.block c r
            → value k right (lane (last_put size calls₁) b) c r ≡ value k right (lane (last_put size calls₂) b) c r
        across c r b cl n rl bl q =
            sym (h₁.fits c r b cl (sole₁.others c cl n) rl bl) ∙ ap (λ l. get_or l b 0) q ∙ h₂.fits c r b cl (sole₂.others c cl n) rl bl

        agree : (b : ℕ) → b < size → AgreeOnHalf k right j (lane (last_put size calls₁) b) (lane (last_put size calls₂) b)
        agree b bl =
            record {
              columns = λ i c l t ck n.
                  sym (value_data k right (lane (last_put size calls₁) b) c i ck) ∙ across c i b (omega arith) n l bl (e.columns i c l t (omega arith) n)
                  ∙ value_data k right (lane (last_put size calls₂) b) c i ck;
              sums = λ i l t.
                  sym (value_horizontal k right (lane (last_put size calls₁) b) i)
                  ∙ across k i b (omega arith) (omega arith) l bl (e.columns i k l t (omega arith) (omega arith))
                  ∙ value_horizontal k right (lane (last_put size calls₂) b) i;
              lines = λ i l t.
                  sym (value_butterfly k right (lane (last_put size calls₁) b) (meets i j))
                  ∙ across (k + 1) (meets i j) b (omega arith) (omega arith) (meets_lt k i j l jk) bl (e.lines i l t)
                  ∙ value_butterfly k right (lane (last_put size calls₂) b) (meets i j);
            }

  pub law_for : Law k right size
  law_for =
      record {
        fits = λ calls at s run. (at_point run).fits;
        same_puts = λ calls₁ calls₂ at₁ at₂ s₁ s₂ run₁ run₂. same_told calls₁ calls₂ at₁ at₂ s₁ s₂ (at_point run₁) (at_point run₂);
        half_read = λ calls s s' run j jk sole step c cl n. half_reads calls s s' j (at_point run) jk sole step c cl n;
        same_rebuilds = λ calls₁ calls₂ s₁ s₁' s₂ s₂' run₁ run₂ j jk sole₁ sole₂ e step₁ step₂ i il.
            rebuilt_column calls₁ s₁ s₁' j run₁ jk step₁ i il
            ∙ named_told calls₁ calls₂ between between s₁ s₂ (at_point run₁) (at_point run₂) j jk sole₁ sole₂ e i il
            ∙ sym (rebuilt_column calls₂ s₂ s₂' j run₂ jk step₂ i il);
        gets = λ calls at s run j i v m' g. hand k right law size calls at s (at_point run) i j g.row g.column v g.at_hand;
        sweeps = λ calls s run. clean calls s (at_point run);
        at_most_two = λ calls at s run. missing_two k right law size calls at s (at_point run);
        roster = λ calls at s run. (at_point run).roster;
      }
    where
      at_point : {calls : List Event} {at : Point} {s : Shelf} → Run k right size calls at s → Stands k right size calls at s
      at_point = stands k right law size

pub law_of_shelves : LawOfShelves
law_of_shelves k size w = law_for k (published k) (law_of_width k w) size
