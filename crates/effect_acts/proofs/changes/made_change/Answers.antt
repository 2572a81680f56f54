use Rattle.std.proofs.Common.{sym, subst}
use Rattle.sig_untrack.specs.Stated.{source}
use Rattle.sig_nodes.specs.Answers.{HasFewSlots}
use Rattle.sig_nodes.specs.Computations.{recipe_made}
use Rattle.effect_acts.proofs.Meant.{few_slots}
use Rattle.effect_acts.proofs.changes.made_change.Goals as goal

pub returns-clause-meant : goal.returns-clause-meant
returns-clause-meant c = record { target = c.cell_at-id.ensures; recipe = λ i. recipe_made (c.in_ok-recipe.ensures i) (c.in_ok-slots.ensures i) }

pub returns-clause-few : goal.returns-clause-few
returns-clause-few c = λ h.
    subst (λ x. x) (λ i. HasFewSlots (sym c.in_ok-recipe.ensures i) (sym c.in_ok-slots.ensures i)) (few_slots (source c.args.rewire.now.recipe) c.args.ids.now h)
