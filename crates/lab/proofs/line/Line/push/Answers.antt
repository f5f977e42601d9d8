use Rattle.std.proofs.Common.{refl, rules}
use Rattle.lab.proofs.Pushing.{pasted_front, pasted_rest, pasted_length}
use Rattle.lab.proofs.line.Line.push.Goals as goal

pub returns : goal.returns
returns c =
    let was = c.args.self.now.buffer.now in
    let text = c.args.text.now in
    let part = c.copy_from_slice.new.self in
    let at = c.args.self.now.len in
    let same = c.copy_from_slice.ensures.after in
    record {
      len = refl;
      short = search rules;
      front = pasted_front was text part at _ _ c.requires same (search rules) refl;
      rest = pasted_rest was text part at _ _ c.requires same (search rules) refl;
      long = pasted_length was text part at _ _ c.requires same (search rules) refl;
      same = refl;
    }
