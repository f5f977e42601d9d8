use Rattle.std.proofs.Common.{◌≡◌, ◌||◌, true, false, arith, rules, tests}
use Rattle.std.proofs.lemmas.Iterator.{first_from_Range}
use Rattle.shelf.specs.Missing.{is_out}
use Rattle.shelf.proofs.Checked.{first_silent}
use Rattle.shelf.proofs.checks.lowest_silent.Goals as goal

pub returns : goal.returns
returns g c =
    let out = c.args.out in
    let answers = (g.T.Tray.meaning c.args.tray.now).answers in
    first_silent out answers 0 c.args.columns c.args.columns (omega arith) c.find.result
    (first_from_Range _ _ _ _ (λ i. (is_out out i || answers i) ≡ false) (λ i. (is_out out i || answers i) ≡ true) c.find.ensures.ran
    (λ x q k. search (rules, tests)) (λ x q k. (search rules, search (rules, tests))))
