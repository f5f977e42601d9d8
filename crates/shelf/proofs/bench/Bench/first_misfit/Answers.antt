use Rattle.std.proofs.Common.{◌≡◌, ℕ, ◌+◌, ◌*◌, length, get_or, sym, ◌∙◌, subst, add-mul, arith, below_more}
use Rattle.shelf.specs.Sweeping.{Agrees}
use Rattle.shelf.proofs.Adding.{has_slot_for}
use Rattle.shelf.proofs.Frames.{calm_read}
use Rattle.shelf.proofs.Sweeping.{place_ready, agreed, first_off}
use Rattle.shelf.proofs.bench.Bench.first_misfit.Goals as goal

pub fetch-requires : goal.fetch-requires
fetch-requires g c =
    let e = c.rows-slots.ensures.value in
    place_ready c.args.self.now.k.number (length c.args.self.now.block.now) (g.T.Tray.meaning c.args.tray.now) (g.T.Tray.meaning c.places.tray) c.requires c.places.invariant.1
    c.places.slot (omega arith) c.place-column.result (c.place-column.ensures ∙ c.in_slot.ensures) (length c.places.block) c.places.auto.block

pub bounds-work-at : goal.bounds-work-at
bounds-work-at g c =
    let e = c.rows-slots.ensures.value in
    let s = c.places.slot in
    let n = length c.fetch.new.block in
    let h = has_slot_for c.args.self.now.k.number (length c.args.self.now.block.now) n c.args.self.now.work.now c.args.self.now.room (c.fetch.auto.block ∙ c.places.auto.block) s (omega arith) in
    omega (arith, add-mul s 1 n)

pub places-preserved : goal.places-preserved
places-preserved g c =
    let m = g.T.Tray.meaning c.args.tray.now in
    let size = length c.args.self.now.block.now in
    let s = c.places.slot in
    let block = c.fetch.new.block in
    let work = c.args.self.now.work.now in
    let same : length block ≡ size = c.fetch.auto.block ∙ c.places.auto.block in (
      c.loop-i.invariant.0,
      calm_read m (g.T.Tray.meaning c.places.tray) (g.T.Tray.meaning c.fetch.new.tray) c.place-column.result.0 c.places.invariant.1 c.fetch.ensures.tray,
      below_more (Agrees c.args.self.now.k.number size m work) s c.places.invariant.2
          (agreed c.args.self.now.k.number size m (g.T.Tray.meaning c.places.tray) work block s c.place-column.result
          (c.place-column.ensures ∙ c.in_slot.ensures) c.places.invariant.1 c.fetch.ensures.block
          (λ b l. subst (λ (n : ℕ). get_or block b 0 ≡ get_or work (s * n + b) 0) same (c.loop-i.invariant.1 b (omega arith)))),
    )

pub returns-then-byte-work-clause-found : goal.returns-then-byte-work-clause-found
returns-then-byte-work-clause-found g c =
    let m = g.T.Tray.meaning c.args.tray.now in
    let size = length c.args.self.now.block.now in
    let s = c.places.slot in
    let block = c.fetch.new.block in
    let work = c.args.self.now.work.now in
    let same : length block ≡ size = c.fetch.auto.block ∙ c.places.auto.block in
    let e = c.rows-slots.ensures.value in
    first_off c.args.self.now.k.number size m (g.T.Tray.meaning c.places.tray) work block s c.place-column.result
    (c.place-column.ensures ∙ c.in_slot.ensures) c.places.invariant.1 c.fetch.ensures.block
    c.loop-i.i (omega arith) (λ h. c.if-byte-work.true (subst (λ (n : ℕ). get_or block c.loop-i.i 0 ≡ get_or work (s * n + c.loop-i.i) 0) (sym same) h)) (omega arith) c.places.invariant.2
