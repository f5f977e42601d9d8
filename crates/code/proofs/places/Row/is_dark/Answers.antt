use Rattle.std.proofs.Common.{◌/◌, ◌^◌, cond, ltb, ap, ◌∙◌}
use Rattle.code.proofs.Rows.{dark_shift}
use Rattle.code.proofs.places.Row.is_dark.Goals as goal

pub returns : goal.returns
returns c =
    dark_shift c.args.self.0 c.args.column _ (rw (← c.gray.ensures.value) c.gray.ensures.below)
    (c.unbounded_shr.ensures ∙ ap (λ g. cond (ltb c.args.column 64) (g / 2 ^ c.args.column) 0) c.gray.ensures.value)
