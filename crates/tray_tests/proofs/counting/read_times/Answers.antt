use Rattle.std.proofs.Common.{arith}
use Rattle.tray_tests.proofs.counting.read_times.Goals as goal

-- The trait's promise that a tally is below 2^32.
pub loop-read-init : goal.loop-read-init
loop-read-init g c = omega (arith, g.T.Tray.wraps c.args.tray.now c.args.column)
