use Rattle.std.proofs.Common.{length}
use Rattle.code.specs.Neighbours.{published}
use Rattle.shelf.specs.Missing.{is_out}
use Rattle.shelf.proofs.Benching.{kept_then}
use Rattle.shelf.proofs.Gathering.{gathered_reads, gathered_sums}
use Rattle.shelf.proofs.bench.Bench.gather.Goals as goal

pub returns : goal.returns
returns g c =
    let s = c.args.self.now in
    let k = s.k.number in
    let size = length s.block.now in
    let m = g.T.Tray.meaning c.args.tray.now in
    let r = c.rows.ensures.value in
    let first = c.begin.ensures in
    let second = c.begin-2.ensures in
    let sums = c.gather_data.ensures in
    let one = first.work.kept in
    let two = kept_then s c.begin.new.self c.begin-2.new.self one second.work.kept in
    let tray₂ = rw one.width at second.tray in
    let work₂ = rw (one.width, one.size) at second.work.work in
    let tray₃ = rw two.width at sums.tray in
    let work₃ = rw (two.width, two.size) at sums.work.work in
    record {
      tray = gathered_reads k (published k) size (is_out c.args.out) m _ _ _ s.work.now _ _ _ _ _ c.rows.result c.reads_parity.ensures c.reads_parity-2.ensures r
          first.tray first.work.work tray₂ work₂ tray₃ work₃;
      work = record {
        kept = kept_then s c.begin-2.new.self c.gather_data.new.self two sums.work.kept;
        work = gathered_sums k (published k) size (is_out c.args.out) m _ _ _ s.work.now _ _ _ _ _ c.rows.result c.reads_parity.ensures c.reads_parity-2.ensures r
            first.tray first.work.work tray₂ work₂ tray₃ work₃;
      };
    }
