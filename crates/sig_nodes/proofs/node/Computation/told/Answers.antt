use Rattle.std.proofs.Common.{sym, subst}
use Rattle.sig_formula.specs.Trees.{tree}
use Rattle.sig_nodes.specs.declared.answers.Recipe.{Recipe}
use Rattle.sig_nodes.specs.Answers.{expression_of}
use Rattle.sig_nodes.specs.Computations.{Computation, recipe_made}
use Rattle.sig_nodes.specs.Reading.{IsToldOf}
use Rattle.sig_nodes.proofs.ReadOn.{formula_told}
use Rattle.sig_nodes.proofs.node.Computation.told.Goals as goal

pub returns-in_ok-told-in-Formula : goal.returns-in_ok-told-in-Formula
returns-in_ok-told-in-Formula c =
    let slots = c.self.inside.slots.items in
    let t = c.in_ok-told-in-Formula.told in
    let o = c.told_at_once.new.outcome in
    subst (λ (s : Computation). IsToldOf s.recipe c.args.known.now t o) c.self.view_is
    (subst (λ (r : Recipe). IsToldOf (recipe_made (expression_of r) slots) c.args.known.now t o) (sym c.in-Formula.is)
    (formula_told t o (tree c.in-Formula.formula) slots c.args.known.now c.in_ok-told-in-Formula.ensures))
