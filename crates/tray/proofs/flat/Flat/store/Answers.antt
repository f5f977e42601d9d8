use Rattle.std.proofs.Common.{length, refl, ap, ◌∙◌, ap₂, arith}
use lib.Seq.{paste}
use Rattle.std.proofs.lemmas.Slice.{put_mid-paste}
use Rattle.tray.proofs.FlatSteps.{with_cells, block_written}
use Rattle.tray.proofs.flat.Flat.store.Goals as goal

pub returns-clause-after : goal.returns-clause-after
returns-clause-after c =
    let t = c.args.self.now in
    let block = c.args.block.now in
    let ready = c.requires in
    let put = put_mid-paste c.start-at.result _ t.cells.now c.copy_from_slice.new.self block (length block) c.copy_from_slice.ensures.after (omega arith) refl in
    let there = put ∙ ap₂ (λ at n. paste t.cells.now at block n) c.start-at.ensures.value ready.size in
    ap (with_cells t) there ∙ block_written t c.args.column c.args.row ready.column ready.row block ready.size
