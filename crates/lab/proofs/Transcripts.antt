-- The lines of a script, command by command.
use Rattle.std.proofs.Common.{◌≡◌, ℕ, ◌+◌, ◌<◌, ◌≤◌, Bool, true, false, cond, eqb, leb, List, [], ◌∷◌, ◌++◌, length, drop, IfOk, Ok, Err, Result, sym, ap, ◌∙◌, subst, append_assoc, append-nil, arith, length-append, length-drop}
use Rattle.std.proofs.lemmas.Bool.Decides.{nat_tests}
use Rattle.tray.specs.declared.fault.Fault.{Fault}
use Rattle.script.specs.Letters.{is_letter}
use Rattle.script.specs.Commands.{Operation}
use Rattle.script.specs.Reading.{Read, reading, within, Planned, reading_first}
use Rattle.lab.specs.declared.answer.Answer.{Answer}
use Rattle.lab.specs.Labs.{Held, Standing, bare, laid}
use Rattle.lab.specs.Lines.{line_text}
use Rattle.lab.specs.Running.{line_checked, Told, Begun, goes_on, Turned, Turns, Runs}
use Rattle.lab.specs.Transcripts.{Tells, Transcript, over, line}

-- ---- a command leaves less of the script

-- the script behind a command that was read is no longer than its operands with that script
abbrev Behind : {X : Type 0} → List ℕ → Result (X × List ℕ) Fault → Type 0
Behind o read = IfOk read (λ next. length next.1 ≤ length o)

behind_either : {X : Type 0} (o : List ℕ) (b : Bool) (x y : Result (X × List ℕ) Fault) → Behind o x → Behind o y → Behind o (cond b x y)
behind_either o true x y p q = p
behind_either o false x y p q = q

behind_dropped : (n : ℕ) (o : List ℕ) → length (drop n o) ≤ length o
behind_dropped n o = simp length-drop (omega arith)

behind_within : (n : ℕ) (o : List ℕ) (x : Operation) → Behind o (within n o x)
behind_within n o x = behind_either o (leb n (length o)) _ _ (behind_dropped n o) tt

behind_read : (letter : ℕ) (o : List ℕ) (size : ℕ) → Behind o (reading letter o size)
behind_read letter o size =
    behind_either o (eqb letter 76) _ _ (behind_within 3 o _)
    (behind_either o (eqb letter 88) _ _ (behind_within 1 o _)
    (behind_either o (eqb letter 82) _ _ (behind_within 1 o _)
    (behind_either o (eqb letter 83) _ _ (behind_within 0 o _)
    (behind_either o (eqb letter 71) _ _ (behind_within 3 o _)
    (behind_either o (eqb letter 80) _ _ (behind_within (3 + size) o _)
    (behind_either o (eqb letter 81) _ _ (behind_within 4 o _)
    (behind_either o (eqb letter 68) _ _ (behind_within 4 o _)
    (behind_either o (eqb letter 85) _ _ (behind_within 2 o _)
    (behind_either o (eqb letter 70) _ _ (behind_within 2 o _) tt)))))))))

behind_first : (letter : ℕ) (o : List ℕ) → Behind o (reading_first letter o)
behind_first letter o =
    behind_either o (is_letter letter) _ _ (behind_either o (eqb letter 76) _ _ (behind_either o (leb 3 (length o)) _ _ (behind_dropped 3 o) tt) tt) tt

goes_on_less : {X : Type 0} (r : Result X Fault) (next rest o : List ℕ) → rest ≡ goes_on r next → length next ≤ length o → length rest ≤ length o
goes_on_less (Ok _) next rest o e h = rw e h
goes_on_less (Err _) next rest o e h = rw e (omega arith)

begun_less : (cells o : List ℕ) (plan : Planned) (answer : Result Answer Fault) (rest : List ℕ) (s' : Standing) → Behind o plan
    → Begun cells plan answer rest s' → length rest ≤ length o
begun_less cells o (Ok plan) answer rest s' h b = goes_on_less b.laying plan.1 rest o b.on h
begun_less cells o (Err f) answer rest s' h b = rw b.1 (omega arith)

turned_less : (sheet : List ℕ) (s : Held) (o : List ℕ) (read : Read) (work : List ℕ) (told : Result Answer Fault) (rest work' : List ℕ) (s' : Held)
    → Behind o read → Turned sheet s read work told rest work' s' → length rest ≤ length o
turned_less sheet s o (Ok next) work told rest work' s' h t = rw t.1 h
turned_less sheet s o (Err f) work told rest work' s' h t = rw t.1 (omega arith)

turns_less : (sheet : List ℕ) (s : Standing) (letter : ℕ) (o work : List ℕ) (told : Result Answer Fault) (rest work' : List ℕ) (s' : Standing)
    → Turns sheet s letter o work told rest work' s' → length rest ≤ length o
turns_less sheet (bare cells) letter o work told rest work' s' t =
    begun_less cells o (reading_first letter o) told rest s' (behind_first letter o) t.0
turns_less sheet (laid s) letter o work told rest work' s' t =
    turned_less sheet s o (reading letter o s.roster.size) work told rest work' t.0 (behind_read letter o s.roster.size) t.2

pub runs_less : (sheet : List ℕ) (s : Standing) (script work buffer : List ℕ) (n : ℕ) (rest work' buffer' : List ℕ) (s' : Standing) → 0 < length script
    → Runs sheet s script work buffer n rest work' buffer' s' → length rest < length script
runs_less sheet s [] work buffer n rest work' buffer' s' some r = absurd (omega arith)
runs_less sheet s (letter ∷ o) work buffer n rest work' buffer' s' some r =
    let h = turns_less sheet s letter o work r.answer rest work' s' r.turns in
    omega arith

-- ---- a line lies within its buffer

told_within : (letter : ℕ) (told : Result Answer Fault) (buffer : List ℕ) (n : ℕ) (buffer' : List ℕ) → Told letter told buffer n buffer' → n ≤ length buffer'
told_within letter told buffer n buffer' t =
    let text = line_text letter told in
    let e : length buffer' ≡ length text + length (drop (length text) buffer) = ap length t.text ∙ length-append text (drop (length text) buffer) in
    omega (arith, t.many)

pub runs_within : (sheet : List ℕ) (s : Standing) (script work buffer : List ℕ) (n : ℕ) (rest work' buffer' : List ℕ) (s' : Standing)
    → Runs sheet s script work buffer n rest work' buffer' s' → n ≤ length buffer'
runs_within sheet s [] work buffer n rest work' buffer' s' r = omega (arith, r.none)
runs_within sheet s (letter ∷ o) work buffer n rest work' buffer' s' r = told_within letter r.answer buffer n buffer' r.told

-- ---- the lines, one after the other

-- the lines so far: with those of the rest behind them they are those of the whole script
abbrev pub SoFar : ℕ → List ℕ → Standing → List ℕ → List ℕ → Standing → List ℕ → Type 0
SoFar w sheet s₀ script lines s rest = (more : List ℕ) → Transcript w sheet s rest more → Transcript w sheet s₀ script (lines ++ more)

-- the buffers are w and n bytes long, as they were made, and the lines are those so far
pub record Playing (sheet : List ℕ) (s₀ : Standing) (script : List ℕ) (w n : ℕ) (lines : List ℕ) (s : Standing) (rest : List ℕ) : Type 0 where
  pub wide : w ≡ 13107
  pub long : n ≡ 1040
  pub so_far : SoFar 13107 sheet s₀ script lines s rest

-- the line of one command more
pub one_more : {sheet : List ℕ} {s₀ : Standing} {script : List ℕ} {w n : ℕ} {lines : List ℕ} {s : Standing} {rest : List ℕ} {text rest' : List ℕ} {s' : Standing} {lines' : List ℕ}
    → Playing sheet s₀ script w n lines s rest → 0 < length rest → Tells w sheet s rest text rest' s' → lines' ≡ lines ++ text
    → Playing sheet s₀ script w n lines' s' rest'
one_more {rest = []} p some tells l = absurd (omega arith)
one_more {sheet} {s₀} {script} {lines = lines} {s = s} {rest = letter ∷ o} {text} {rest'} {s'} p some tells l =
    let tells' = subst (λ k. Tells k sheet s (letter ∷ o) text rest' s') p.wide tells in
    record {
      wide = p.wide;
      long = p.long;
      so_far = λ more on.
          subst (λ x. Transcript 13107 sheet s₀ script x) (sym (append_assoc lines text more) ∙ ap (λ x. x ++ more) (sym l)) (p.so_far (text ++ more) (line tells' on));
    }

-- a line buffer that is long enough is taken
pub taken : (n : ℕ) (f : Fault) → 1040 ≤ n → Err f ≡ line_checked n → ⊥
taken n f long e = grind (arith, nat_tests)

-- the lines of the whole script, by other names of the lab and the script
pub played : {sheet sheet' : List ℕ} {s₀ s₀' : Standing} {script script' : List ℕ} {w n : ℕ} {lines : List ℕ} {s : Standing} {rest : List ℕ} → sheet ≡ sheet' → s₀ ≡ s₀'
    → script ≡ script' → Playing sheet s₀ script w n lines s rest → length rest ≡ 0 → Transcript 13107 sheet' s₀' script' lines
played {sheet} {sheet'} {s₀} {s₀'} {script} {script'} {lines = lines} {rest = []} e f g p end =
    let all = subst (λ x. Transcript 13107 sheet s₀ script x) (append-nil lines) (p.so_far [] over) in
    subst (λ x. Transcript 13107 x s₀' script' lines) e
    (subst (λ x. Transcript 13107 sheet x script' lines) f
    (subst (λ x. Transcript 13107 sheet s₀ x lines) g all))
played {rest = b ∷ rest} e f g p end = absurd (omega arith)
