use Rattle.std.proofs.Common.{◌≡◌, length, arith}
use Rattle.code.specs.Code.{rows}
use Rattle.code.specs.Neighbours.{published}
use Rattle.code.proofs.Limits.{law_of_width}
use Rattle.shelf.proofs.Benching.{kept_none, kept_then}
use Rattle.shelf.proofs.Spreading.{spread_none, spread_more, spread_all}
use Rattle.shelf.proofs.bench.Bench.spread.Goals as goal

pub loop-row-init : goal.loop-row-init
loop-row-init c =
    let s = c.args.self.now in
    record { kept = kept_none s; work = spread_none s.k.number (published s.k.number) (law_of_width _ s.k.valid) (length s.block.now) s.work.now c.args.column c.requires }

pub loop-row-preserved : goal.loop-row-preserved
loop-row-preserved c =
    let s = c.args.self.now in
    let e = c.rows-row-end.ensures.value in
    let h = c.loop-row.invariant in
    let copied = c.copy_slot.ensures in
    let added = c.add_to_lines.ensures in
    let kept = kept_then s c.loop-row.self c.copy_slot.new.self h.kept copied.kept in
    record {
      kept = kept_then s c.copy_slot.new.self c.add_to_lines.new.self kept added.kept;
      work =
          spread_more s.k.number (published s.k.number) (law_of_width _ s.k.valid) (length s.block.now) s.work.now c.args.column c.requires
          c.loop-row.row (length c.copy_slot.new.self.block.now) (length c.loop-row.self.block.now) c.copy_slot.new.self.block.now c.loop-row.self.work.now c.add_to_lines.new.self.work.now
          (omega arith) kept.size h.kept.size h.work copied.block (rw (kept.width, copied.work) at added.work);
    }

pub returns : goal.returns
returns c =
    let s = c.args.self.now in
    let r = c.rows-row-end.ensures.value in
    let e : c.loop-row.row ≡ rows s.k.number = omega arith in
    record {
      kept = c.loop-row.invariant.kept;
      work =
          spread_all s.k.number (published s.k.number) (law_of_width _ s.k.valid) (length s.block.now) s.work.now c.args.column c.requires c.loop-row.self.work.now
          (rw e at c.loop-row.invariant.work);
    }
