use Rattle.std.proofs.Common.{◌≡◌, ◌+◌, length, arith}
use Rattle.code.specs.Neighbours.{published}
use Rattle.shelf.specs.Parities.{line_by, lines_below, line_places}
use Rattle.shelf.proofs.Changing.{added_none, added_same, added_added, below_none, below_more, below_apart, below_all}
use Rattle.shelf.proofs.parities.add_to_lines.Goals as goal

pub loop-through-init : goal.loop-through-init
loop-through-init g c =
    let k = c.args.k.number in
    added_none (length c.args.block.now) (g.T.Tray.meaning c.args.tray.now) c.args.block.now (lines_below k (published k) c.args.row.0 c.args.column 0)
    (below_none k (published k) c.args.row.0 c.args.column)

pub loop-through-preserved : goal.loop-through-preserved
loop-through-preserved g c =
    let k = c.args.k.number in
    let i = c.args.row.0 in
    let j = c.args.column in
    let t = c.loop-through.through in
    let x = c.args.block.now in
    let m = g.T.Tray.meaning c.args.tray.now in
    let m' = g.T.Tray.meaning c.loop-through.tray in
    let m'' = g.T.Tray.meaning c.add_to_line.new.tray in
    added_same (length x) m x _ (lines_below k (published k) i j (t + 1)) m'' (below_more k (published k) i j t)
    (added_added (length x) m x (lines_below k (published k) i j t) (line_by k (published k) i j t) m' m'' (below_apart k (published k) i j t) c.loop-through.invariant c.add_to_line.ensures)

pub returns : goal.returns
returns g c =
    let k = c.args.k.number in
    let i = c.args.row.0 in
    let j = c.args.column in
    let x = c.args.block.now in
    let e : c.loop-through.through ≡ k = omega arith in
    added_same (length x) (g.T.Tray.meaning c.args.tray.now) x (lines_below k (published k) i j k) (line_places k (published k) i j) (g.T.Tray.meaning c.loop-through.tray)
    (below_all k (published k) i j) (rw e at c.loop-through.invariant)
