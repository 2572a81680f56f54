use Rattle.std.proofs.Common.{◌≡◌, ℕ, List, None, map, is_some, subst}
use Rattle.effect_model.specs.Acts.{rewire_signal, rewiring_refused}
use Rattle.effect_model.specs.Worlds as plain
use Rattle.sig_nodes.specs.Answers.{expression_of}
use Rattle.sig_nodes.specs.Computations.{recipe_made}
use Rattle.effect_world.specs.Wholes.{whole_of}
use Rattle.effect_acts.specs.Acts.{IsRefusal}
use Rattle.effect_acts.proofs.Acts.{acted_told}
use Rattle.effect_acts.proofs.Refusals.{refused_is}
use Rattle.effect_acts.proofs.recipes.rewire.Goals as goal

pub change_standing-requires-clause-open : goal.change_standing-requires-clause-open
change_standing-requires-clause-open g c =
    subst (λ (ns : List ℕ). rewiring_refused c.args.id (recipe_made (expression_of c.args.recipe) ns) (whole_of (map (λ p. record { there = is_some p.host; asks = p.count }) c.args.shelf.now.places.items) c.args.world.now) ≡ None) c.deref.ensures.value c.in-None.ensures.none

pub returns-in_ok-push-in-Some-clause-done : goal.returns-in_ok-push-in-Some-clause-done
returns-in_ok-push-in-Some-clause-done g c = λ slacks.
    let r : IsRefusal c.in-Some.event (rewiring_refused c.args.id (recipe_made (expression_of c.args.recipe) c.args.slots.items) (whole_of (map (λ p. record { there = is_some p.host; asks = p.count }) c.args.shelf.now.places.items) c.args.world.now)) =
    subst (λ (ns : List ℕ). IsRefusal c.in-Some.event (rewiring_refused c.args.id (recipe_made (expression_of c.args.recipe) ns) (whole_of (map (λ p. record { there = is_some p.host; asks = p.count }) c.args.shelf.now.places.items) c.args.world.now))) c.deref.ensures.value c.in-Some.ensures.some in
    acted_told slacks c.args.world.now (map (λ p. record { there = is_some p.host; asks = p.count }) c.args.shelf.now.places.items) _ _ c.in-Some.event (plain.refused r.why) _ 1 (λ env. rewire_signal c.args.id (recipe_made (expression_of c.args.recipe) c.args.slots.items)) c.in_ok-push-in-Some.ensures.items
    (λ env. refused_is c.args.id (recipe_made (expression_of c.args.recipe) c.args.slots.items) (whole_of (map (λ p. record { there = is_some p.host; asks = p.count }) c.args.shelf.now.places.items) c.args.world.now) r.why r.is) r.told c.requires.agrees
