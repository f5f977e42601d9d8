use Rattle.std.proofs.Common.{◌≡◌, length, Ok, sym, refl, ap, ◌∙◌, subst, arith, rules}
use lib.ListN.{length-replicate}
use Rattle.law.proofs.Shelves.{law_of_shelves}
use Rattle.shelf.specs.declared.roster.missing.Missing.TheVariants.{Nothing}
use Rattle.shelf.specs.Blocks.{Ready}
use Rattle.shelf.specs.Rosters.{roster_of}
use Rattle.shelf.proofs.Checked.{laid_sound, sound_ready}
use Rattle.shelf.proofs.Laying.{layout_begins}
use Rattle.shelf.proofs.roster.Roster.layout.Goals as goal

pub wipe-requires : goal.wipe-requires
wipe-requires g c column i cl il =
    let m = g.T.Tray.meaning c.args.tray.now in
    let r = roster_of c.in_ok-roster.roster in
    let sound = laid_sound r m (sym c.check_layout.ensures ∙ c.in_ok-check_layout.was) in
    let long : length c.zeros.result.now ≡ r.size = ap length c.zeros.ensures ∙ length-replicate c.size.result 0 ∙ c.size.ensures.value in
    subst (Ready m column i) (sym long)
    (sound_ready Nothing r m sound column i (omega (arith, c.columns.ensures.value)) refl (omega (arith, c.rows.ensures.value)))

pub returns-clause-begins : goal.returns-clause-begins
returns-clause-begins g c =
    layout_begins c.args.width c.args.size (g.T.Tray.meaning c.args.tray.now) (g.T.Tray.meaning c.wipe.new.tray) (g.T.Tray.sized c.wipe.new.tray)
    (Ok c.in_ok-roster.roster) (search rules) (search rules)

pub returns-clause-law : goal.returns-clause-law
returns-clause-law g c = law_of_shelves

pub returns-in_err-roster-clause-law : goal.returns-in_err-roster-clause-law
returns-in_err-roster-clause-law g c = law_of_shelves

pub returns-in_err-check_layout-clause-law : goal.returns-in_err-check_layout-clause-law
returns-in_err-check_layout-clause-law g c = law_of_shelves
