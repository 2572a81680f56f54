use Rattle.std.proofs.Common.{map, option_map, ap, sym, subst, ◌∙◌}
use Rattle.std.proofs.lemmas.Option.{slice_get-map}
use Rattle.sig_untrack.specs.Stated.{rewiring, source}
use Rattle.effect_tables.specs.declared.links.Slots.{Slots}
use Rattle.effect_tables.specs.Scripts.{IsFew}
use Rattle.effect_teardown.specs.Sites.{slots_in}
use Rattle.effect_teardown.proofs.SharedSites.{get_some}
use Rattle.effect_acts.proofs.Meant.{few_at}
use Rattle.effect_acts.proofs.changes.change_at.Goals as goal

pub returns-clause-few : goal.returns-clause-few
returns-clause-few c = λ h.
    c.in_ok-change.ensures.few
    (subst (IsFew (source c.in-Some.rewire.now.recipe)) (sym c.deref.ensures.value)
    (few_at (map rewiring c.args.rewires.now) (slots_in c.args.slots.now) c.args.place (rewiring c.in-Some.rewire.now) c.in-Some-get.own.now.ids.items
    (slice_get-map rewiring c.args.rewires.now c.args.place ∙ ap (option_map rewiring) (get_some c.args.rewires.now c.args.place c.in-Some.rewire.now c.in-Some.ensures.lookup.0 c.in-Some.ensures.lookup.1))
    (slice_get-map (λ (s : Slots). s.ids.items) c.args.slots.now c.args.place
    ∙ ap (option_map (λ (s : Slots). s.ids.items)) (get_some c.args.slots.now c.args.place c.in-Some-get.own.now c.in-Some-get.ensures.lookup.0 c.in-Some-get.ensures.lookup.1))
    h))
