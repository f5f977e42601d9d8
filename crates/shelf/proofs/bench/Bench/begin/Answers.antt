use Rattle.std.proofs.Common.{cond, length, sym, ap, ◌∙◌}
use Rattle.code.specs.Numbers.{only}
use Rattle.code.specs.Code.{rows}
use Rattle.law.specs.Holding.{held}
use Rattle.shelf.specs.Reading.{after_reads, times}
use Rattle.shelf.proofs.Adding.{filled_same}
use Rattle.shelf.proofs.Gathering.{column_none}
use Rattle.shelf.proofs.bench.Bench.begin.Goals as goal

pub returns-then-is_read : goal.returns-then-is_read
unfolding only
returns-then-is_read g c =
    let m = g.T.Tray.meaning c.args.tray.now in
    let s = c.args.self.now in
    let e = c.if-is_read.true in
    record {
      tray = c.load.ensures.tray ∙ ap (λ b. after_reads m (times c.args.column (cond b (rows s.k.number) 0))) (sym e);
      work = record {
        kept = c.load.ensures.work.kept;
        block = c.load.ensures.work.block;
        work = filled_same (length s.block.now) s.work.now c.args.first (rows s.k.number) _ (λ r b. only c.args.is_read (held m b r c.args.column)) _
            (λ r b. ap (λ p. only p (held m b r c.args.column)) (sym e)) c.load.ensures.work.work;
      };
    }

pub returns-else-is_read : goal.returns-else-is_read
unfolding only
returns-else-is_read g c =
    let m = g.T.Tray.meaning c.args.tray.now in
    let s = c.args.self.now in
    let e = c.if-is_read.false in
    record {
      tray = column_none m c.args.column (g.T.Tray.wraps c.args.tray.now) ∙ ap (λ b. after_reads m (times c.args.column (cond b (rows s.k.number) 0))) (sym e);
      work = record {
        kept = c.clear.ensures.kept;
        block = c.clear.ensures.block;
        work = filled_same (length s.block.now) s.work.now c.args.first (rows s.k.number) _ (λ r b. only c.args.is_read (held m b r c.args.column)) _
            (λ r b. ap (λ p. only p (held m b r c.args.column)) (sym e)) c.clear.ensures.work;
      };
    }
