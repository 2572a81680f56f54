use Rattle.std.proofs.Common.{◌≡◌, map, is_some, Option, None, refl, sym, subst, ◌∙◌}
use Rattle.std.specs.Prelude.{IfNone, IfSome}
use Rattle.effect_model.specs.Worlds.{Refused}
use Rattle.sig_nodes.specs.Answers.{expression_of}
use Rattle.sig_nodes.specs.Computations.{recipe_made}
use Rattle.effect_world.specs.Wholes.{whole_of}
use Rattle.effect_acts.specs.Acts.{IsRefusal}
use Rattle.effect_acts.proofs.Refusals.{by_host, gone_of, slot_gone, target_gone}
use Rattle.effect_acts.proofs.recipes.refusal.Goals as goal

pub returns-then-not-is_signal-clause-some : goal.returns-then-not-is_signal-clause-some
returns-then-not-is_signal-clause-some g c = record {
  why = gone_of c.args.id;
  is = target_gone c.args.id (recipe_made (expression_of c.args.recipe.now) c.args.slots.now) (whole_of (map (λ p. record { there = is_some p.host; asks = p.count }) c.args.shelf.now.places.items) c.args.world.now) (sym c.is_signal.ensures ∙ c.if-not-is_signal.true);
  told = refl;
}

pub returns-in-Some-clause-some : goal.returns-in-Some-clause-some
returns-in-Some-clause-some g c = record {
  why = gone_of c.in-Some.gone;
  is = slot_gone c.args.id c.in-Some.gone (recipe_made (expression_of c.args.recipe.now) c.args.slots.now) (whole_of (map (λ p. record { there = is_some p.host; asks = p.count }) c.args.shelf.now.places.items) c.args.world.now) (sym c.is_signal.ensures ∙ c.if-not-is_signal.false) c.in-Some.ensures;
  told = refl;
}

pub returns-in-None-clause-some : goal.returns-in-None-clause-some
returns-in-None-clause-some g c =
    subst (λ (o : Option Refused). IfSome c.host_refusal.result (λ e. IsRefusal e o)) (sym (by_host c.args.id (recipe_made (expression_of c.args.recipe.now) c.args.slots.now) (whole_of (map (λ p. record { there = is_some p.host; asks = p.count }) c.args.shelf.now.places.items) c.args.world.now) (sym c.is_signal.ensures ∙ c.if-not-is_signal.false) c.in-None.ensures))
    c.host_refusal.ensures.some

pub returns-in-None-clause-none : goal.returns-in-None-clause-none
returns-in-None-clause-none g c =
    subst (λ (o : Option Refused). IfNone c.host_refusal.result (o ≡ None)) (sym (by_host c.args.id (recipe_made (expression_of c.args.recipe.now) c.args.slots.now) (whole_of (map (λ p. record { there = is_some p.host; asks = p.count }) c.args.shelf.now.places.items) c.args.world.now) (sym c.is_signal.ensures ∙ c.if-not-is_signal.false) c.in-None.ensures))
    c.host_refusal.ensures.none
