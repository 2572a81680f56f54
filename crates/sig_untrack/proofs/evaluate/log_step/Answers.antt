use Rattle.std.proofs.Common.{◌≡◌, ◌∙◌, ◌∷◌, [], sym, ap, None, true}
use Rattle.sig_formula.specs.Evaluation.{formula_step}
use Rattle.sig_formula.specs.declared.evaluate.FormulaStep.TheVariants.{End}
use Rattle.sig_base.specs.declared.value.Outcome.TheVariants.{Good}
use Rattle.sig_formula.specs.Trees.{tree}
use Rattle.effect_model.specs.Bodies.{acts, and_then, followed_by, with_answer, to_log}
use Rattle.sig_untrack.specs.Links.{acts_of}
use Rattle.sig_untrack.specs.Stops.{answered}
use Rattle.sig_untrack.proofs.evaluate.log_step.Goals as goal

pub returns-in_ok-stop-in-Ok : goal.returns-in_ok-stop-in-Ok
returns-in_ok-stop-in-Ok c = λ p rest.
    let ts = c.args.tracked.now in
    let us = c.args.untracked.now in
    let told : formula_step true (tree c.args.formula.now) None ts us ≡ End (Good c.in-Ok.value) = sym c.in_ok-value.ensures ∙ ap answered c.in-Ok.is in
    c.in_ok-stop-in-Ok.ensures p rest
    ∙ ap (followed_by (acts_of p c.args.acts.now.items)) (sym (ap (λ a. and_then (with_answer a (λ v. acts (to_log v ∷ []))) rest) told))
