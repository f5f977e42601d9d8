use Rattle.std.proofs.Common.{◌*◌, take}
use Rattle.lab.specs.Lines.{hex}
use Rattle.lab.specs.Pushes.{Pushes}
use Rattle.lab.proofs.line.Line.push_hex.Given as goal

abbrev pub invariant-loop-byte : goal.invariant-loop-byte
invariant-loop-byte l = Pushes l.initial.self (2 * l.byte-index) (hex (take l.byte-index l.block)) l.self
