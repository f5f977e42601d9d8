use Rattle.std.proofs.Common.{◌≡◌, ◌+◌, ◌%◌, ◌^◌}
use Rattle.tray_tests.proofs.counting.read_times.Given as goal

-- As many more on the tally as there were reads so far.
abbrev pub invariant-loop-read : goal.invariant-loop-read
invariant-loop-read g l = (g.T.Tray.meaning l.tray).tally l.column ≡ ((g.T.Tray.meaning l.initial.tray).tally l.column + l._read) % 2 ^ 32
