use Rattle.std.proofs.Common.{length}
use Rattle.lab.specs.Labs.{standing}
use Rattle.lab.proofs.Transcripts.{Playing}
use Rattle.lab.proofs.transcript.transcript.Given as goal

abbrev pub invariant-loop-sheet : goal.invariant-loop-sheet
invariant-loop-sheet l =
    Playing l.sheet (standing l.initial.lab) l.initial.rest l.work.len l.line.len l.lines.items (standing l.lab) l.rest

abbrev pub decreases-loop-sheet : goal.decreases-loop-sheet
decreases-loop-sheet l = length l.rest
