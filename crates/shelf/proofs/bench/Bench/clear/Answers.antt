use Rattle.std.proofs.Common.{◌+◌, ◌-◌, ◌*◌, ◌≤◌, length, refl, subst, mul-le-mul_right, add-mul, arith}
use borrow.Rule.Slice.PartMut.{put_mid}
use Rattle.std.proofs.lemmas.List.{places}
use Rattle.code.specs.Code.{rows}
use Rattle.shelf.specs.Slots.{Filled}
use Rattle.shelf.proofs.Indices.{slots_zeroed}
use Rattle.shelf.proofs.bench.Bench.clear.Goals as goal

pub returns : goal.returns
returns c =
    let s = c.args.self.now in
    let first = c.args.first in
    let size = length s.block.now in
    let work = s.work.now in
    let n = c.rows.result in
    let zeros = c.fill.new.self in
    let after = c.fill.ensures.after (λ y e. e) in
    let fits : (first + n) * size ≤ length work =
    omega (arith, mul-le-mul_right {m = first + n} {n = 2 * rows s.k.number} size (omega (arith, c.rows.ensures.value)), s.room.large) in
    let l : first * size + n * size ≤ length work = omega (arith, add-mul first n size, fits) in
    record {
      kept = record { width = refl; size = refl; room = omega arith; block-lender = refl; work-lender = refl };
      block = refl;
      work = subst (λ m. Filled size work first m (λ _ _. 0) (put_mid (first * size) (first * size + n * size - first * size) work zeros)) c.rows.ensures.value
          (slots_zeroed size work first n zeros fits (omega arith) (λ k. grind (arith, places)));
    }
