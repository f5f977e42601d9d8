use Rattle.std.proofs.Common.{◌≡◌, ℕ, ◌+◌, ◌/◌, ◌%◌, ◌^◌, ◌<◌, ◌≤◌, [], ◌∷◌, length, sym, ap, ◌∙◌, arith, rules, length-append}
use Rattle.std.proofs.lemmas.Fmt.{decimal_digit, decimal_step}
use Rattle.lab.specs.Lines.{decimal}
use Rattle.lab.proofs.Pushing.{both, written_as}
use Rattle.lab.proofs.line.Line.+push_digits.Goals as goal

length_digit : (n : ℕ) → n < 10 → length (decimal n) ≡ 1
length_digit n h = ap length (decimal_digit n h)

length_last_digit : (n : ℕ) → 10 ≤ n → n < 2 ^ 64 → length (decimal n) ≡ length (decimal (n / 10)) + 1
length_last_digit n h fits = ap length (decimal_step n h fits) ∙ length-append (decimal (n / 10)) ((48 + n % 10) ∷ [])

pub push-requires : goal.push-requires
push-requires t c = omega (arith, length_digit c.args.n c.if-n-lt10.true)

pub returns-then-n-lt10 : goal.returns-then-n-lt10
returns-then-n-lt10 t c =
    let one = c.if-n-lt10.true in
    written_as (sym (decimal_digit c.args.n one)) (omega (arith, length_digit c.args.n one)) c.push.ensures

pub push_digits-requires : goal.push_digits-requires
push_digits-requires t c = (search rules, omega (arith, length_last_digit c.args.n c.if-n-lt10.false (search rules)))

pub push-requires-2 : goal.push-requires-2
push-requires-2 t c = omega (arith, length_last_digit c.args.n c.if-n-lt10.false (search rules))

pub returns : goal.returns
returns t c =
    let more = c.if-n-lt10.false in
    written_as (sym (decimal_step c.args.n more (search rules))) (omega (arith, length_last_digit c.args.n more (search rules)))
    (both c.push_digits.ensures c.push-2.ensures)
