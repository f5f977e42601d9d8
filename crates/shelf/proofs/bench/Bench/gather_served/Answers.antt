use Rattle.std.proofs.Common.{◌≡◌, true, false, cond, length, sym, ap, ◌∙◌}
use Rattle.code.specs.Code.{rows}
use Rattle.code.specs.Neighbours.{published}
use Rattle.law.specs.Holding.{held}
use Rattle.shelf.specs.Missing.{is_out}
use Rattle.shelf.specs.Reading.{after_reads, times, part, in_service}
use Rattle.shelf.proofs.Benching.{kept_none}
use Rattle.shelf.proofs.Gathering.{column_none, sums_none, sums_same, part_served, none_served}
use Rattle.shelf.proofs.bench.Bench.gather_served.Goals as goal

pub returns-then-not-is_out : goal.returns-then-not-is_out
returns-then-not-is_out g c =
    let m = g.T.Tray.meaning c.args.tray.now in
    let s = c.args.self.now in
    let k = s.k.number in
    let j = c.args.column in
    let out = is_out c.args.out in
    let o : out j ≡ false = sym c.is_out.ensures ∙ c.if-not-is_out.true in
    record {
      tray = c.gather_column.ensures.tray ∙ ap (λ b. after_reads m (times j (cond b 0 (rows k)))) (sym o);
      work = record {
        kept = c.gather_column.ensures.work.kept;
        work = sums_same k (published k) (length s.block.now) s.work.now (λ b. part j (rows k) (held m b)) (λ b. in_service out j (held m b)) _
            (λ b i x _ l _. part_served out (held m b) i x j (rows k) o l) c.gather_column.ensures.work.work;
      };
    }

pub returns-else-not-is_out : goal.returns-else-not-is_out
returns-else-not-is_out g c =
    let m = g.T.Tray.meaning c.args.tray.now in
    let s = c.args.self.now in
    let k = s.k.number in
    let j = c.args.column in
    let out = is_out c.args.out in
    let o : out j ≡ true = sym c.is_out.ensures ∙ c.if-not-is_out.false in
    record {
      tray = column_none m j (g.T.Tray.wraps c.args.tray.now) ∙ ap (λ b. after_reads m (times j (cond b 0 (rows k)))) (sym o);
      work = record {
        kept = kept_none s;
        work = sums_none k (published k) (length s.block.now) s.work.now (λ b. in_service out j (held m b)) (λ b i x. none_served out (held m b) i x j o);
      };
    }
