use Rattle.std.proofs.Common.{rules, ◌≡◌, ℕ, ◌^◌, ◌<◌, Bool, true, false, true≢false, List, Option, None, Result, Ok, Err, subst, sym, ap, ◌∙◌, arith}
use Rattle.std.specs.Bool.{then_some}
use Rattle.std.specs.Option.{MatchOption}
use Rattle.std.specs.Result.{result_ok}
use Rattle.std.specs.Str.Parse.{ParsesUnsigned}
use Rattle.code.specs.Widths.{is_width}
use Rattle.code.proofs.Limits.{a_width}
use Rattle.worksheet.specs.Arguments.{NamesWidth}
use Rattle.worksheet.proofs.page.width_of.Goals as goal

-- the number that a text writes, where it passes the test
names : {E : Type 0} (text : List ℕ) (parsed : Result ℕ E) (kept : Option ℕ) (Passes : ℕ → Bool → Type 0)
    → ParsesUnsigned 32 10 text parsed → MatchOption (result_ok parsed) (kept ≡ None) (λ k. (b : Bool) × Passes k b × (kept ≡ then_some b k))
    → ((k : ℕ) (b : Bool) → Passes k b → b ≡ is_width k) → NamesWidth text kept
names text (Err e) kept Passes h none test =
    subst (NamesWidth text) (sym none) (λ digits width. h (digits, small _ width))
  where
    small : (k : ℕ) → is_width k ≡ true → k < 2 ^ 32
    small k e = let w = a_width k e in omega arith
names text (Ok k) kept Passes h some test =
    subst (NamesWidth text) (sym some.2) (by_test some.0 (test k some.0 some.1))
  where
    by_test : (b : Bool) → b ≡ is_width k → NamesWidth text (then_some b k)
    by_test true e = (h.0.0, sym h.1, sym e)
    by_test false e = λ _ width. true≢false (sym width ∙ ap is_width (sym h.1) ∙ sym e)

pub returns : goal.returns
returns c = names c.args.text.now c.parse.result c.filter.result _ c.parse.ensures.value.0 (rw c.ok.ensures.value at c.filter.ensures) (λ k b h. search rules)
