use Rattle.std.proofs.Common.{◌≡◌, ◌++◌, take, sym, refl, ap, ◌∙◌, arith, length-take-le, rules}
use Rattle.std.proofs.lemmas.Bool.Decides.{nat_tests}
use Rattle.std.proofs.lemmas.List.{take_at}
use Rattle.lab.proofs.Transcripts.{one_more, taken, played, runs_less, runs_within}
use Rattle.lab.proofs.transcript.transcript.Goals as goal

pub loop-sheet-init : goal.loop-sheet-init
loop-sheet-init c = record { wide = c.in_ok-work.ensures.len; long = c.in_ok-line.ensures.len; so_far = λ more t. rw c.new-lines.ensures.items t }

pub unreachable-requires : goal.unreachable-requires
unreachable-requires c = taken _ c.in_default.field-0 (omega arith) c.in_default.ensures.value

pub slice_bounds-extend_from_slice-end : goal.slice_bounds-extend_from_slice-end
slice_bounds-extend_from_slice-end c =
    let same : c.deref.result.now ≡ c.run.new.line = c.deref.ensures.value ∙ take_at c.run.new.line _ _ (omega arith) in
    let within = runs_within _ _ _ _ _ _ _ _ _ _ c.in-Ok.ensures.done in
    sym (length-take-le c.in-Ok.step.len c.deref.result.now (rw same within))

pub loop-sheet-smaller : goal.loop-sheet-smaller
loop-sheet-smaller c =
    let empty = c.is_empty.ensures in
    let more = c.loop-sheet-test.true in
    runs_less _ _ _ _ _ _ _ _ _ _ (grind (arith, nat_tests)) c.in-Ok.ensures.done

pub loop-sheet-preserved : goal.loop-sheet-preserved
loop-sheet-preserved c =
    let same : c.deref.result.now ≡ c.run.new.line = c.deref.ensures.value ∙ take_at c.run.new.line _ _ (omega arith) in
    let empty = c.is_empty.ensures in
    let more = c.loop-sheet-test.true in
    one_more c.loop-sheet.invariant (grind (arith, nat_tests)) (record {
      work = c.deref_mut-in-loop-sheet.result.now;
      work' = c.run.new.work;
      buffer = c.deref_mut-in-loop-sheet-2.result.now;
      buffer' = c.run.new.line;
      many = c.in-Ok.step.len;
      wide = c.deref_mut-in-loop-sheet.ensures.len;
      runs = c.in-Ok.ensures.done;
      shown = refl;
    }) (c.in_ok-extend_from_slice.ensures.items ∙ ap (λ t. c.loop-sheet.lines.items ++ take c.in-Ok.step.len t) same)

pub returns : goal.returns
returns c =
    (c.deref_mut.result.now, c.deref_mut.ensures.len ∙ c.in_ok-memory.ensures.len, played c.front-sheet.ensures c.new-lab.ensures.value c.front-rest.ensures c.loop-sheet.invariant (search rules))
