use Rattle.std.proofs.Common.{false, ◌||◌, ltb, sym, refl, ap, ◌∙◌}
use borrow.Author.Tests.{lt-true, le-false}
use Rattle.shelf.specs.Missing.{is_out}
use Rattle.shelf.specs.Reading.{data_out}
use Rattle.code.proofs.Put.{any_none}
use Rattle.shelf.proofs.Outs.{any_one, any_two_of}
use Rattle.shelf.proofs.roster.missing.Missing.has_data.Goals as goal

pub returns-in-Nothing : goal.returns-in-Nothing
returns-in-Nothing c = sym (any_none c.args.k.number (λ _. false) (λ _ _. refl)) ∙ ap (λ m. data_out c.args.k.number (is_out m)) (sym c.in-Nothing.is)

pub returns-in-One : goal.returns-in-One
returns-in-One c = sym (any_one c.args.k.number c.in-One.a) ∙ ap (λ m. data_out c.args.k.number (is_out m)) (sym c.in-One.is)

pub returns-then-a-k : goal.returns-then-a-k
returns-then-a-k c =
    let k = c.args.k.number in
    sym (lt-true c.in-Two.a k c.if-a-k.true) ∙ sym (ap (λ m. data_out k (is_out m)) c.in-Two.is ∙ any_two_of k c.in-Two.a c.in-Two.b ∙ ap (λ s. s || ltb c.in-Two.b k) (sym (lt-true c.in-Two.a k c.if-a-k.true)))

pub returns-else-a-k : goal.returns-else-a-k
returns-else-a-k c =
    let k = c.args.k.number in
    sym (ap (λ m. data_out k (is_out m)) c.in-Two.is ∙ any_two_of k c.in-Two.a c.in-Two.b ∙ ap (λ s. s || ltb c.in-Two.b k) (sym (le-false c.in-Two.a k c.if-a-k.false)))
