-- The places below `slot` agree, and so do the bytes below `i` of the one that is read.
use Rattle.std.proofs.Common.{◌≡◌, ℕ, ◌+◌, ◌<◌, length, get_or, None}
use Rattle.law.specs.Holding.{Calm}
use Rattle.shelf.specs.Sweeping.{Agrees}
use Rattle.shelf.proofs.bench.Bench.first_misfit.Given as goal

abbrev pub invariant-loop-i : goal.invariant-loop-i
invariant-loop-i g l = (l.found ≡ None) × ((b : ℕ) → b < l.i → get_or l.byte-items b 0 ≡ get_or l.work (l.at + b) 0)

abbrev pub invariant-places : goal.invariant-places
invariant-places g l =
    (l.found ≡ None) × Calm (g.T.Tray.meaning l.initial.tray) (g.T.Tray.meaning l.tray)
    × ((t : ℕ) → t < l.slot → Agrees l.k.number (length l.initial.block) (g.T.Tray.meaning l.initial.tray) l.work t)
