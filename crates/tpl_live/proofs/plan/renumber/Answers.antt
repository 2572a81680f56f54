use Rattle.std.proofs.Common.{◌≡◌, [], arith, sym, subst}
use Rattle.std.proofs.lemmas.Bool.{eqb-true}
use Rattle.std.proofs.lemmas.List.{nil_from_length}
use Rattle.tpl_drawn.specs.Addresses.{noted_from, number_at}
use Rattle.tpl_drawn.specs.Lines.{line_at, lined_from}
use Rattle.tpl_live.specs.Pages.{AreKnown, AreLined}
use Rattle.tpl_live.proofs.plan.renumber.Goals as goal

pub returns-then-is_empty-clause-lines : goal.returns-then-is_empty-clause-lines
returns-then-is_empty-clause-lines c = λ p is shape stands lined.
    let count = eqb-true _ 0 (sym c.if-is_empty.ensures) in
    let none : c.args.coming.items ≡ [] = nil_from_length c.args.coming.items (omega (arith, count)) in
    subst (λ z. AreLined p (lined_from z c.args.from (line_at c.args.numbers.now))) none lined

pub returns-then-is_empty-clause-numbers : goal.returns-then-is_empty-clause-numbers
returns-then-is_empty-clause-numbers c = λ p is shape stands known.
    let count = eqb-true _ 0 (sym c.if-is_empty.ensures) in
    let none : c.args.coming.items ≡ [] = nil_from_length c.args.coming.items (omega (arith, count)) in
    subst (λ z. AreKnown p c.args.tree.now (noted_from z c.args.from (number_at c.args.numbers.now))) none known
