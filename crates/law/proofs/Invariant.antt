-- What stands of a shelf at every point of a run.
use Rattle.std.proofs.Common.{◌≡◌, ℕ, ◌<◌, Bool, true, false, cond, not, ◌&&◌, ◌||◌, eqb, List, [], ◌∷◌, length, get_or, sym, refl, ap, ◌∙◌, subst, true≢false}
use lib.ListN.{length-replicate}
use Rattle.tray.specs.Meaning.{Meaning}
use Rattle.code.specs.Code.{Rule, rows}
use Rattle.code.specs.Neighbours.{Tournament}
use Rattle.law.specs.Service.{Columns, added, AtMostTwo}
use Rattle.law.specs.Holding.{Data, Whole, Fits, Shaped, SameShape, Calm}
use Rattle.law.specs.Hand.{AtHand}
use Rattle.law.specs.Runs.{Shelf, Event, accepted, drilled, put, putting, Start, taken, idle, Inner, last_put, missing, Between, Step, Starts, Point, between, inside, Run}
use Rattle.law.specs.Law.{out_at}
use Rattle.law.proofs.Bools.{or_left, two_added, removed_in}
use Rattle.law.proofs.Zeros.{zero_value}
use Rattle.law.proofs.Hand.{fits_fewer, at_hand_right}
use Rattle.law.proofs.Writes.{put_fits, rebuilt_fits}

-- the columns out before a drill are those missing
abbrev BeforeDrill : Point → Columns → Type 0
BeforeDrill between gone = Unit {0}
BeforeDrill (inside before start inner) gone = (c : ℕ) → before c ≡ gone c

pub record Stands (k : ℕ) (right : Rule) (size : ℕ) (calls : List Event) (at : Point) (s : Shelf) : Type 0 where
  pub shape : Shaped k size s.tray
  pub whole : Whole k size (last_put size calls)
  pub two : AtMostTwo s.out
  pub roster : (c : ℕ) → s.out c ≡ out_at at (missing calls) c
  pub before : BeforeDrill at (missing calls)
  pub fits : Fits k right size (missing calls) (last_put size calls) s.tray

-- a column in service is not missing, and one that is missing is out
pub served_not_missing : (at : Point) (gone : Columns) (c : ℕ) → out_at at gone c ≡ false → gone c ≡ false
served_not_missing between gone c e = e
served_not_missing (inside before (taken d) inner) gone c e = or_left (gone c) (eqb c d) e
served_not_missing (inside before (idle d) inner) gone c e = e

pub missing_is_out : (at : Point) (gone : Columns) (c : ℕ) → gone c ≡ true → out_at at gone c ≡ true
missing_is_out between gone c e = e
missing_is_out (inside before (taken d) inner) gone c e = ap (λ t. t || eqb c d) e
missing_is_out (inside before (idle d) inner) gone c e = e

-- ---- changes that leave the columns not missing as they are

shape_kept : (k size : ℕ) (m m' : Meaning) → Shaped k size m → SameShape m m' → Shaped k size m'
shape_kept k size m m' h e = record { wide = e.wide ∙ h.wide; tall = e.tall ∙ h.tall; deep = e.deep ∙ h.deep }

between_fits : (k : ℕ) (right : Rule) (size : ℕ) (gone : Columns) (D : Data) (m m' : Meaning)
    → Between k gone m m' → Fits k right size gone D m → Fits k right size gone D m'
between_fits k right size gone D m m' h fits c r b cl e rl bl = ap (λ l. get_or l b 0) (h.kept c r cl rl e) ∙ fits c r b cl e rl bl

calm_between : (k : ℕ) (gone : Columns) (m m' : Meaning) → Calm m m' → Between k gone m m'
calm_between k gone m m' h = record { shape = h.frame.shape; kept = λ c r _ _ _. ap (λ f. f c r) h.block }

same_between : (k : ℕ) (gone : Columns) (m m' : Meaning) → m' ≡ m → Between k gone m m'
same_between k gone m m' e =
    record {
      shape = record { wide = ap (λ t. t.columns) e; tall = ap (λ t. t.rows) e; deep = ap (λ t. t.size) e };
      kept = λ c r _ _ _. ap (λ t. t.block c r) e;
    }

-- ---- the points of a run

module _ (k : ℕ) (right : Rule) (law : Tournament k right) (size : ℕ) where
  -- the columns in service fit the blocks last put
  out_fits : (calls : List Event) (at : Point) (s : Shelf) → Stands k right size calls at s → Fits k right size s.out (last_put size calls) s.tray
  out_fits calls at s h =
      fits_fewer k right size (missing calls) s.out (last_put size calls) s.tray
      (λ c e. served_not_missing at (missing calls) c (sym (h.roster c) ∙ e)) h.fits

  -- the data at hand are the blocks last put
  pub hand : (calls : List Event) (at : Point) (s : Shelf) → Stands k right size calls at s → (i j : ℕ) → i < rows k → j < k → (v : List ℕ)
      → AtHand k right size s.out s.tray i j v → v ≡ last_put size calls i j
  hand calls at s h i j il jk v a =
      at_hand_right k right law size s.out (last_put size calls) s.tray h.shape s.sized h.whole (out_fits calls at s h) h.two i j il jk v a

  pub missing_two : (calls : List Event) (at : Point) (s : Shelf) → Stands k right size calls at s → AtMostTwo (missing calls)
  missing_two calls at s h a b c ea eb ec = h.two a b c (out a ea) (out b eb) (out c ec)
    where
      out : (x : ℕ) → missing calls x ≡ true → s.out x ≡ true
      out x e = h.roster x ∙ missing_is_out at (missing calls) x e

  -- the tray changes as between calls, and the history does not
  moved : (calls calls' : List Event) (at at' : Point) (s s' : Shelf) → Stands k right size calls at s
      → last_put size calls' ≡ last_put size calls → missing calls' ≡ missing calls → Between k (missing calls) s.tray s'.tray
      → AtMostTwo s'.out → ((c : ℕ) → s'.out c ≡ out_at at' (missing calls) c) → BeforeDrill at' (missing calls) → Stands k right size calls' at' s'
  moved calls calls' at at' s s' h puts gone b two roster before =
      record {
        shape = shape_kept k size s.tray s'.tray h.shape b.shape;
        whole = subst (Whole k size) (sym puts) h.whole;
        two = two;
        roster = subst (λ g. (c : ℕ) → s'.out c ≡ out_at at' g c) (sym gone) roster;
        before = subst (BeforeDrill at') (sym gone) before;
        fits = subst (λ D. Fits k right size (missing calls') D s'.tray) (sym puts)
            (subst (λ g. Fits k right size g (last_put size calls) s'.tray) (sym gone)
            (between_fits k right size (missing calls) (last_put size calls) s.tray s'.tray b h.fits));
      }

  -- nor does the roster
  stayed : (calls calls' : List Event) (at : Point) (s s' : Shelf) → Stands k right size calls at s
      → last_put size calls' ≡ last_put size calls → missing calls' ≡ missing calls → Between k (missing calls) s.tray s'.tray
      → s'.out ≡ s.out → Stands k right size calls' at s'
  stayed calls calls' at s s' h puts gone b same =
      moved calls calls' at at s s' h puts gone b (subst AtMostTwo (sym same) h.two) (λ c. ap (λ f. f c) same ∙ h.roster c) h.before

  after : (calls : List Event) (e : Event) (s s' : Shelf) → Stands k right size calls between s → Step k right size s s' e → Stands k right size (e ∷ calls) between s'
  unfolding last_put missing
  after calls e s s' h (Step.puts {j} {i} {x} p same) =
      record {
        shape = shape_kept k size s.tray s'.tray h.shape p.frame.shape;
        whole = λ i' j' il jl. long i' j' il jl (eqb i' i && eqb j' j);
        two = subst AtMostTwo (sym same) h.two;
        roster = λ c. ap (λ f. f c) same ∙ h.roster c;
        before = tt;
        fits = fits_fewer k right size s.out (missing calls) (putting (accepted (put j i x)) (last_put size calls)) s'.tray (λ c e. h.roster c ∙ e)
            (put_fits k right law size s.out (last_put size calls) s.tray s'.tray j i x (out_fits calls between s h) p
            (hand calls between s h i j p.row p.column p.v p.at_hand));
      }
    where
      long : (i' j' : ℕ) → i' < rows k → j' < k → (t : Bool) → length (cond t x (last_put size calls i' j')) ≡ size
      long i' j' il jl true = p.long
      long i' j' il jl false = h.whole i' j' il jl
  after calls e s s' h (Step.gets {j} {i} v g same) =
      stayed calls (e ∷ calls) between s s' h refl refl (calm_between k (missing calls) s.tray s'.tray g.calm) same
  after calls e s s' h (Step.pulls {c} p same) =
      record {
        shape = shape_kept k size s.tray s'.tray h.shape b.shape;
        whole = h.whole;
        two = two_added s.out s'.out c p.room p.after;
        roster = λ x. p.after x ∙ ap (λ t. t || eqb x c) (h.roster x);
        before = tt;
        fits = between_fits k right size (added (missing calls) c) (last_put size calls) s.tray s'.tray b
            (fits_fewer k right size (missing calls) (added (missing calls) c) (last_put size calls) s.tray (λ x e. or_left (missing calls x) (eqb x c) e) h.fits);
      }
    where
      b : Between k (added (missing calls) c) s.tray s'.tray
      b = same_between k (added (missing calls) c) s.tray s'.tray same
  after calls e s s' h (Step.rebuilds {c} answer p) =
      record {
        shape = shape_kept k size s.tray s'.tray h.shape p.frame.shape;
        whole = h.whole;
        two = λ x y z hx hy hz. h.two x y z (was x hx) (was y hy) (was z hz);
        roster = after_is;
        before = tt;
        fits = fits_fewer k right size s'.out (missing (e ∷ calls)) (last_put size calls) s'.tray (λ x e. after_is x ∙ e)
            (rebuilt_fits k right size s.out s'.out (last_put size calls) s.tray s'.tray c answer (out_fits calls between s h) p
            (λ i j il jk. hand calls between s h i j il jk (p.D i j) (p.at_hand i j il jk)));
      }
    where
      was : (x : ℕ) → s'.out x ≡ true → s.out x ≡ true
      was x e = removed_in s.out c x (sym (p.after x) ∙ e)

      after_is : (x : ℕ) → s'.out x ≡ (missing calls x && not (eqb x c))
      after_is x = p.after x ∙ ap (λ t. t && not (eqb x c)) (h.roster x)
  after calls e s s' h (Step.sweeps found p same) =
      stayed calls (e ∷ calls) between s s' h refl refl (calm_between k (missing calls) s.tray s'.tray p.calm) same
  after calls e s s' h (Step.refuses tray same) =
      stayed calls (e ∷ calls) between s s' h refl refl (same_between k (missing calls) s.tray s'.tray tray) same

  started : (calls : List Event) (start : Start) (inner : List Inner) (s s' : Shelf) → Stands k right size calls between s
      → Starts k s.out start s'.out → s'.tray ≡ s.tray → Stands k right size calls (inside s.out start inner) s'
  started calls (taken c) inner s s' h p same =
      moved calls calls between (inside s.out (taken c) inner) s s' h refl refl (same_between k (missing calls) s.tray s'.tray same)
      (two_added s.out s'.out c p.room p.after) (λ x. p.after x ∙ ap (λ t. t || eqb x c) (h.roster x)) h.roster
  started calls (idle c) inner s s' h p same =
      moved calls calls between (inside s.out (idle c) inner) s s' h refl refl (same_between k (missing calls) s.tray s'.tray same)
      (subst AtMostTwo (sym p) h.two) (λ x. ap (λ f. f x) p ∙ h.roster x) h.roster

  -- one more get inside a drill
  got_inside : (calls : List Event) (before : Columns) (start : Start) (inner inner' : List Inner) (s s' : Shelf)
      → Stands k right size calls (inside before start inner) s → Between k (missing calls) s.tray s'.tray → s'.out ≡ s.out
      → Stands k right size calls (inside before start inner') s'
  got_inside calls before start inner inner' s s' h b same =
      moved calls calls (inside before start inner) (inside before start inner') s s' h refl refl b
      (subst AtMostTwo (sym same) h.two) (λ c. ap (λ f. f c) same ∙ h.roster c ∙ out_still start c) h.before
    where
      out_still : (start : Start) (c : ℕ) → out_at (inside before start inner) (missing calls) c ≡ out_at (inside before start inner') (missing calls) c
      out_still (taken d) c = refl
      out_still (idle d) c = refl

  ended : (calls calls' : List Event) (before : Columns) (start : Start) (inner : List Inner) (s s' : Shelf)
      → last_put size calls' ≡ last_put size calls → missing calls' ≡ missing calls
      → Stands k right size calls (inside before start inner) s → s'.tray ≡ s.tray → s'.out ≡ before → Stands k right size calls' between s'
  ended calls calls' before start inner s s' puts lost h tray same =
      moved calls calls' (inside before start inner) between s s' h puts lost (same_between k (missing calls) s.tray s'.tray tray)
      (λ a b c ea eb ec. missing_two calls (inside before start inner) s h a b c (gone a ea) (gone b eb) (gone c ec)) back tt
    where
      back : (c : ℕ) → s'.out c ≡ missing calls c
      back c = ap (λ f. f c) same ∙ h.before c

      gone : (c : ℕ) → s'.out c ≡ true → missing calls c ≡ true
      gone c e = sym (back c) ∙ e

  pub stands : {calls : List Event} {at : Point} {s : Shelf} → Run k right size calls at s → Stands k right size calls at s
  unfolding last_put missing
  stands (Run.begins {s} m laid in_service) =
      record {
        shape = shape_kept k size m s.tray laid.shape laid.frame.shape;
        whole = λ i j _ _. length-replicate size 0;
        two = λ a b c ha. absurd (true≢false (sym ha ∙ in_service a));
        roster = in_service;
        before = tt;
        fits = λ c r b cl e rl bl. ap (λ l. get_or l b 0) (laid.zeros c r cl rl) ∙ zero_value k right size b c r bl;
      }
  stands (Run.changes {calls} {at} {s} {s'} run b same) = stayed calls calls at s s' (stands run) refl refl b same
  stands (Run.calls {calls} {e} {s} {s'} run step) = after calls e s s' (stands run) step
  stands (Run.starts {calls} {start} {s} {s'} run p same) = started calls start [] s s' (stands run) p same
  stands (Run.gets {calls} {before} {start} {inner} {s} {s'} run v g same) =
      got_inside calls before start inner _ s s' (stands run) (calm_between k (missing calls) s.tray s'.tray g.calm) same
  stands (Run.refuses {calls} {before} {start} {inner} {s} {s'} run tray same) =
      got_inside calls before start inner _ s s' (stands run) (same_between k (missing calls) s.tray s'.tray tray) same
  stands (Run.ends {calls} {before} {start} {inner} {s} {s'} run tray same) =
      ended calls (drilled start inner ∷ calls) before start inner s s' refl refl (stands run) tray same
