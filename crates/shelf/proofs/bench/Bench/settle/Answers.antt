use Rattle.std.proofs.Common.{◌≡◌, ◌+◌, length, ap, ◌∙◌, arith}
use Rattle.code.specs.Code.{rows, meets}
use Rattle.code.specs.Neighbours.{published}
use Rattle.code.proofs.Limits.{a_width}
use Rattle.code.proofs.Rows.{meets_lt}
use Rattle.shelf.proofs.Benching.{kept_then}
use Rattle.shelf.proofs.Spreading.{settled}
use Rattle.shelf.proofs.bench.Bench.settle.Goals as goal

pub copy_slot-requires : goal.copy_slot-requires
copy_slot-requires c =
    let k = c.args.self.now.k.number in
    let w = a_width k c.args.self.now.k.valid in
    let here : c.line.result.0 ≡ meets c.args.row.0 c.args.p = c.line.ensures.within (omega arith) in
    let l = meets_lt k c.args.row.0 c.args.p c.requires.row c.requires.p in
    omega arith

pub returns : goal.returns
returns c =
    let s = c.args.self.now in
    let k = s.k.number in
    let w = a_width k s.k.valid in
    let copied = c.copy_slot.ensures in
    let added = c.add.ensures in
    let first = c.add_to_lines.ensures in
    let second = c.add_to_lines-2.ensures in
    let kept₁ = kept_then s c.copy_slot.new.self c.add.new.self copied.kept added.kept in
    let kept₂ = kept_then s c.add.new.self c.add_to_lines.new.self kept₁ first.kept in
    record {
      kept = kept_then s c.add_to_lines.new.self c.add_to_lines-2.new.self kept₂ second.kept;
      work =
          settled k (published k) (length s.block.now) c.args.p c.args.q c.args.row.0 s.work.now c.copy_slot.new.self.block.now
          c.add.new.self.work.now c.add_to_lines.new.self.work.now c.add_to_lines-2.new.self.work.now (length c.copy_slot.new.self.block.now) c.line_slot.result c.requires.row copied.kept.size
          (c.line_slot.ensures ∙ ap (λ n. rows k + n) (c.line.ensures.within (omega arith))) copied.block (rw copied.work at added.work)
          (rw (kept₁.width, added.block) at first.work) (rw (kept₂.width, first.block, added.block) at second.work);
    }
