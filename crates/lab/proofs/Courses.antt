-- A shelf on which the commands of a script were obeyed stands at the end of a run, so the law of shelves holds of it.
use Rattle.std.proofs.Common.{◌≡◌, ℕ, ◌+◌, ◌<◌, true, false, cond, not, ◌&&◌, eqb, ltb, List, [], ◌∷◌, length, replicate, is_ok, Ok, Err, Result, sym, refl, ap, ◌∙◌, subst, arith}
use Rattle.std.proofs.lemmas.Bool.Decides.{nat_tests}
use Rattle.tray.specs.declared.fault.Fault.{Fault}
use Rattle.tray.specs.Meaning.{Meaning, Sized, switched}
use Rattle.code.specs.Code.{rows}
use Rattle.code.specs.Neighbours.{published}
use Rattle.code.specs.Widths.{is_width}
use Rattle.law.specs.Holding.{Data, SameShape}
use Rattle.law.specs.Calls.{Laid, Rebuilt}
use Rattle.law.specs.Runs.{Event, accepted, between, inside, taken, Run, begins, changes, calls, starts, puts, pulls, rebuilds, last_put}
use Rattle.law.specs.Runs.{put as sent, pull as pulled, rebuild as rebuilt}
use Rattle.law.proofs.Shelves.{law_of_shelves}
use Rattle.shelf.specs.Rosters.{Rostered, taken_out, back_in, full_roster, out_of, shelf_on}
use Rattle.shelf.specs.Checks.{pulling, reaching}
use Rattle.shelf.specs.Rehearsals.{if_started}
use Rattle.shelf.specs.Rebuilding.{reads_of}
use Rattle.shelf.proofs.Pulling.{pull_kept}
use Rattle.script.specs.Commands.{Operation, layout, pull, rebuild, sweep, get, put, drill, switch, fill}
use Rattle.lab.specs.declared.answer.Answer.{Answer}
use Rattle.lab.specs.declared.answer.Answer.TheVariants.{Done, Block, Count, Found}
use Rattle.lab.specs.Labs.{Held}
use Rattle.lab.specs.Obeying.{judging, Obeyed, Does, Shows, PutOn, Filled, none, more}
use Rattle.lab.specs.Courses.{Past, bytes_or, setting, last_set, Course, opened, obeyed, Truthful, LawOfScripts}

-- a shelf at the end of a run whose last puts are these
record Stands (D : Data) (r : Rostered) (m : Meaning) : Type 0 where
  made : List Event
  run : (sized : Sized m) → Run r.width (published r.width) r.size made between (shelf_on r m sized)
  same : (i j : ℕ) → i < rows r.width → last_put r.size made i j ≡ D i j

relabel : {D D' : Data} (r : Rostered) (m : Meaning) → ((i j : ℕ) → i < rows r.width → D i j ≡ D' i j) → Stands D r m → Stands D' r m
relabel r m e h = record { made = h.made; run = h.run; same = λ i j il. h.same i j il ∙ e i j il }

-- ---- what commands do

opened_on : (k size : ℕ) (m m' : Meaning) → Laid k size m m' → Stands (λ i j. replicate size 0) (full_roster k size) m'
unfolding last_put
opened_on k size m m' d = record { made = []; run = λ sized. begins m d (λ c. refl); same = λ i j il. refl }

-- the tray's blocks are as they were
quiet : {D : Data} (r : Rostered) (m m' : Meaning) → Sized m → SameShape m m' → m'.block ≡ m.block → Stands D r m → Stands D r m'
quiet r m m' sized shape block h =
    record {
      made = h.made;
      run = λ sized'. changes {s = shelf_on r m sized} {s' = shelf_on r m' sized'} (h.run sized) (record { shape = shape; kept = λ c i cl il gone. ap (λ b. b c i) block }) refl;
      same = h.same;
    }

pulled_on : {D : Data} (r : Rostered) (m : Meaning) (c : ℕ) → pulling r c ≡ Ok tt → Stands D r m → Stands D (taken_out r c) m
unfolding last_put
pulled_on r m c e h =
    record {
      made = accepted (pulled c) ∷ h.made;
      run = λ sized. calls {s = shelf_on r m sized} {s' = shelf_on (taken_out r c) m sized} (h.run sized) (pulls (pull_kept r (taken_out r c) c (Ok tt) (sym e) refl) refl);
      same = h.same;
    }

rebuilt_on : {D : Data} (r : Rostered) (m m' : Meaning) (c n : ℕ) → Sized m
    → Rebuilt r.width (published r.width) r.size (out_of r) m c n (out_of (back_in r c)) m' → Stands D r m → Stands D (back_in r c) m'
unfolding last_put
rebuilt_on r m m' c n sized d h =
    record {
      made = accepted (rebuilt c) ∷ h.made;
      run = λ sized'. calls {s = shelf_on r m sized} {s' = shelf_on (back_in r c) m' sized'} (h.run sized) (rebuilds n d);
      same = h.same;
    }

put_on : {D : Data} (r : Rostered) (m m' : Meaning) (c n : ℕ) (x : List ℕ) → Sized m → PutOn r m c n x m' → Stands D r m
    → Stands (λ i j. cond (eqb i n && eqb j c) x (D i j)) r m'
unfolding last_put
put_on r m m' c n x sized d h =
    record {
      made = accepted (sent c n x) ∷ h.made;
      run = λ sized'. calls {s = shelf_on r m sized} {s' = shelf_on r m' sized'} (h.run sized) (puts d refl);
      same = λ i j il. ap (cond (eqb i n && eqb j c) x) (h.same i j il);
    }

-- one row more of a column
one_more : (i j n c : ℕ) (x y : List ℕ) → cond (eqb i n && eqb j c) x (cond (eqb j c && ltb i n) x y) ≡ cond (eqb j c && ltb i (n + 1)) x y
one_more i j n c x y = grind (arith, nat_tests)

filled_on : {D : Data} (r : Rostered) (m : Meaning) (c : ℕ) (x : List ℕ) (n : ℕ) (m' : Meaning) → Sized m → Filled r c x m n m' → Stands D r m
    → Sized m' × Stands (λ i j. cond (eqb j c && ltb i n) x (D i j)) r m'
filled_on {D} r m c x _ _ sized none h = (sized, relabel r m (λ i j il. grind (arith, nat_tests)) h)
filled_on {D} r m c x _ m₂ sized (more {n} {m₁} before d sized₂) h =
    let p = filled_on r m c x n m₁ sized before h in
    (sized₂, relabel r m₂ (λ i j il. one_more i j n c x (D i j)) (put_on r m₁ m₂ c n x p.0 d p.1))

-- ---- what an answer shows

shown : (answer : Answer) {P : List ℕ → Type 0} → Shows answer P → (block : List ℕ) × P block
shown Done d = absurd d
shown (Block block) d = (block.now, d)
shown (Count n) d = absurd d
shown (Found place) d = absurd d

shows_so : (answer : Answer) {P Q : List ℕ → Type 0} → ((block : List ℕ) → P block → Q block) → Shows answer P → Shows answer Q
shows_so Done so d = d
shows_so (Block block) so d = so block.now d
shows_so (Count n) so d = d
shows_so (Found place) so d = d

-- ---- one command

-- the same roster, and the same tray
with_roster : (D : ℕ → Data) (r r' : Rostered) (m : Meaning) → r' ≡ r → Stands (D r.size) r m → Stands (D r'.size) r' m
with_roster D r r' m e h = subst (λ t. Stands (D t.size) t m) (sym e) h

with_tray : {D : Data} (r : Rostered) (m m' : Meaning) → m' ≡ m → Stands D r m → Stands D r m'
with_tray {D} r m m' e h = subst (Stands D r) (sym e) h

all_rows : (i j n c : ℕ) (x y : List ℕ) → i < n → cond (eqb j c && ltb i n) x y ≡ cond (eqb j c) x y
all_rows i j n c x y h = grind (arith, nat_tests)

module _ (sheet : List ℕ) (past : Past) (s s' : Held) (sized : Sized s.tray) (h : Stands (last_set sheet s.roster.size past) s.roster s.tray) where
  -- the shelf after a command x that left it the roster r, by the blocks that x put
  after : (x : Operation) (r : Rostered) → s'.roster ≡ r → Stands (λ i j. setting sheet r.size x (last_set sheet r.size past) i j) r s'.tray
      → Stands (last_set sheet s'.roster.size ((x, true) ∷ past)) s'.roster s'.tray
  after x r e d = with_roster (λ size. last_set sheet size ((x, true) ∷ past)) r s'.roster s'.tray e (relabel r s'.tray (λ i j il. refl) d)

  accepted_on : (x : Operation) (w : ℕ) (answer : Answer) → judging sheet s x w ≡ Ok tt → Does sheet s x answer s'
      → Stands (last_set sheet s'.roster.size ((x, true) ∷ past)) s'.roster s'.tray
  accepted_on (layout k n) w answer j d = absurd d
  accepted_on (pull c) w answer j d =
      after (pull c) (taken_out s.roster c) d.1 (with_tray (taken_out s.roster c) s.tray s'.tray d.2 (pulled_on s.roster s.tray c j h))
  accepted_on (rebuild c) w answer j d =
      let r = s.roster in
      let n = reads_of r.width r.missing in
      let done = subst (λ t. Rebuilt r.width (published r.width) r.size (out_of r) s.tray c n (out_of t) s'.tray) d.1 d.2 in
      after (rebuild c) (back_in r c) d.1 (rebuilt_on r s.tray s'.tray c n sized done h)
  accepted_on sweep w answer j d =
      after sweep s.roster d.2 (quiet s.roster s.tray s'.tray sized d.3.calm.frame.shape d.3.calm.block h)
  accepted_on (get c i) w answer j d =
      let got = shown answer d.1 in
      after (get c i) s.roster d.0 (quiet s.roster s.tray s'.tray sized got.1.calm.frame.shape got.1.calm.block h)
  accepted_on (put c i x) w answer j d =
      let bytes = d.2.0 in
      after (put c i x) s.roster d.1
      (relabel s.roster s'.tray (λ a b al. ap (λ v. cond (eqb a i && eqb b c) (bytes_or v) (last_set sheet s.roster.size past a b)) (sym d.2.1))
      (put_on s.roster s.tray s'.tray c i bytes sized d.2.2 h))
  accepted_on (drill e c i) w answer j d =
      let got = shown answer d.1 in
      after (drill e c i) s.roster d.0 (quiet s.roster s.tray s'.tray sized got.1.calm.frame.shape got.1.calm.block h)
  accepted_on (switch c flag) w answer j d =
      after (switch c flag) s.roster d.1
      (with_tray s.roster (switched s.tray c (not (eqb flag 0))) s'.tray d.2
      (quiet s.roster s.tray (switched s.tray c (not (eqb flag 0))) sized (record { wide = refl; tall = refl; deep = refl }) refl h))
  accepted_on (fill c byte) w answer j d =
      let r = s.roster in
      let x = replicate r.size byte in
      after (fill c byte) r d.1
      (relabel r s'.tray (λ a b al. all_rows a b (rows r.width) c x (last_set sheet r.size past a b) al)
      (filled_on r s.tray c x (rows r.width) s'.tray sized d.2 h).1)

  -- a refused command changes nothing
  told_on : (x : Operation) (work work' : List ℕ) (told : Result Answer Fault) → Obeyed sheet s x work told work' s'
      → Stands (last_set sheet s'.roster.size ((x, is_ok told) ∷ past)) s'.roster s'.tray
  told_on x work work' (Ok answer) o = accepted_on x (length work) answer (sym o.value) o.done
  told_on x work work' (Err f) o =
      subst (λ t. Stands (last_set sheet t.roster.size ((x, false) ∷ past)) t.roster t.tray) (sym o.done) (relabel s.roster s.tray (λ i j il. refl) h)

  -- the shelf keeps its width and its size
  same_plan : (x : Operation) (work work' : List ℕ) (told : Result Answer Fault) → Obeyed sheet s x work told work' s'
      → (s'.roster.width ≡ s.roster.width) × (s'.roster.size ≡ s.roster.size)
  same_plan x work work' (Err f) o = (ap (λ t. t.roster.width) o.done, ap (λ t. t.roster.size) o.done)
  same_plan (layout k n) work work' (Ok answer) o = absurd o.done
  same_plan (pull c) work work' (Ok answer) o = (ap (λ r. r.width) o.done.1, ap (λ r. r.size) o.done.1)
  same_plan (rebuild c) work work' (Ok answer) o = (ap (λ r. r.width) o.done.1, ap (λ r. r.size) o.done.1)
  same_plan sweep work work' (Ok answer) o = (ap (λ r. r.width) o.done.2, ap (λ r. r.size) o.done.2)
  same_plan (get c i) work work' (Ok answer) o = (ap (λ r. r.width) o.done.0, ap (λ r. r.size) o.done.0)
  same_plan (put c i x) work work' (Ok answer) o = (ap (λ r. r.width) o.done.1, ap (λ r. r.size) o.done.1)
  same_plan (drill e c i) work work' (Ok answer) o = (ap (λ r. r.width) o.done.0, ap (λ r. r.size) o.done.0)
  same_plan (switch c flag) work work' (Ok answer) o = (ap (λ r. r.width) o.done.1, ap (λ r. r.size) o.done.1)
  same_plan (fill c byte) work work' (Ok answer) o = (ap (λ r. r.width) o.done.1, ap (λ r. r.size) o.done.1)

-- ---- any number of commands

record Came (sheet : List ℕ) (k size : ℕ) (past : Past) (s : Held) : Type 0 where
  width : s.roster.width ≡ k
  deep : s.roster.size ≡ size
  sized : Sized s.tray
  stands : Stands (last_set sheet s.roster.size past) s.roster s.tray

came : (sheet : List ℕ) (k size : ℕ) (past : Past) (s : Held) → Course sheet k size past s → Came sheet k size past s
came sheet k size _ _ (opened {m} {m'} d sized) =
    record { width = refl; deep = refl; sized = sized; stands = relabel (full_roster k size) m' (λ i j il. refl) (opened_on k size m m' d) }
came sheet k size _ s' (obeyed {past} {s} {x} {work} {work'} {told} before o sized') =
    let p = came sheet k size past s before in
    let kept = same_plan sheet past s s' p.sized p.stands x work work' told o in
    record {
      width = kept.0 ∙ p.width;
      deep = kept.1 ∙ p.deep;
      sized = sized';
      stands = told_on sheet past s s' p.sized p.stands x work work' told o;
    }

-- ---- the law

-- a drill whose get was accepted took its column out
started : (start answer : Result (Unit {0}) Fault) → Ok tt ≡ if_started start answer → Ok tt ≡ start
started (Ok u) answer e = refl
started (Err f) answer e = e

module _ (sheet : List ℕ) (past : Past) (s : Held) (width : is_width s.roster.width ≡ true) (sized : Sized s.tray)
    (h : Stands (last_set sheet s.roster.size past) s.roster s.tray) where
  truthful : Truthful sheet s.roster.width s.roster.size past s
  truthful =
      let r = s.roster in
      let law = law_of_shelves r.width r.size width in
      let here = shelf_on r s.tray sized in
      record {
        gets = λ c i work work' answer s' o.
            shows_so answer (λ block got. law.gets h.made between here (h.run sized) c i block s'.tray got ∙ h.same i c got.row) o.done.1;
        drills = λ d c i work work' answer s' o.
            let took = started (pulling r d) (reaching (taken_out r d) s.tray c i r.size (length work)) o.value in
            let out = shelf_on (taken_out r d) s.tray sized in
            shows_so answer (λ block got.
            law.gets h.made (inside (out_of r) (taken d) []) out
            (starts {s = here} {s' = out} (h.run sized) (pull_kept r (taken_out r d) d (Ok tt) took refl) refl) c i block s'.tray got ∙ h.same i c got.row) o.done.1;
        sweeps = λ work work' answer s' o.
            o.done.1 ∙ ap Found (law.sweeps h.made here (h.run sized) o.done.0 s'.tray o.done.3);
      }

pub law_of_scripts : LawOfScripts
law_of_scripts sheet k size past s w course =
    let p = came sheet k size past s course in
    let here = truthful sheet past s (ap is_width p.width ∙ w) p.sized p.stands in
    subst (λ n. Truthful sheet k n past s) p.deep (subst (λ n. Truthful sheet n s.roster.size past s) p.width here)
