use Rattle.std.proofs.Common.{arith}
use Rattle.shelf.proofs.Benching.{kept_then}
use Rattle.shelf.proofs.Regaining.{reads_after}
use Rattle.shelf.proofs.Halfway.{all_found, half_read}
use Rattle.shelf.proofs.bench.Bench.regain.Goals as goal

pub returns : goal.returns
returns g c =
    let jk = c.requires.column in
    let e = c.read_lines.ensures.tray in
    let h = c.read_lines.ensures.work.kept in
    let found = c.regain_rows.ensures in
    record {
      tray = reads_after _ _ _ _ _ _ e (rw h.width at found.tray) (half_read c.args.self.now.k.number c.args.column (omega arith) jk);
      work = record { kept = kept_then _ _ _ h found.work.kept; work = all_found _ _ _ _ _ jk _ (rw (h.width, h.size, e) at found.work.work) };
    }
