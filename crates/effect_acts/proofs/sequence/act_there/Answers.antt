use Rattle.std.proofs.Common.{[], ◌∷◌, map, is_some, refl, arith}
use Rattle.std.specs.Rc.{rc_value}
use Rattle.effect_model.specs.Owners.{the_effect}
use Rattle.effect_model.specs.Runs.{do_act, do_acts}
use Rattle.sig_untrack.specs.Links.{act_of}
use Rattle.effect_teardown.specs.Sites.{parts_of}
use Rattle.effect_teardown.proofs.Shared.{effect_listed, effect_unlisted}
use Rattle.effect_world.specs.Wholes.{whole_of}
use Rattle.effect_world.proofs.Shared.{gone_tabled, lives_by}
use Rattle.effect_acts.proofs.Shared.{acted_at, acted_still}
use Rattle.effect_acts.proofs.Ordered.{done_there, none_there}
use Rattle.effect_acts.proofs.sequence.act_there.Goals as goal

pub returns-in_default-clause-done : goal.returns-in_default-clause-done
returns-in_default-clause-done g c =
    let p = parts_of c.args.site.now.origin (rc_value c.args.site.now.script) c.args.site.now.path.items in
    acted_still _ c.args.world.now _ _ _ 1 (λ env. do_acts env c.args.id c.args.label (act_of p c.args.act.now ∷ []))
    (λ env. none_there env c.args.id c.args.label (act_of p c.args.act.now) (whole_of (map (λ p. record { there = is_some p.host; asks = p.count }) c.args.shelf.now.places.items) c.args.world.now)
    (gone_tabled (map (λ p. record { there = is_some p.host; asks = p.count }) c.args.shelf.now.places.items) c.args.world.now (the_effect c.args.id) (effect_unlisted c.args.id c.args.world.now.tables.effects.items c.in_default.ensures)))
    c.requires.agrees

pub returns-clause-done : goal.returns-clause-done
returns-clause-done g c =
    let p = parts_of c.args.site.now.origin (rc_value c.args.site.now.script) c.args.site.now.path.items in
    acted_at _ _ _ _ _ 1 1 (λ env. do_act env c.args.id c.args.label (act_of p c.args.act.now)) (λ env. do_acts env c.args.id c.args.label (act_of p c.args.act.now ∷ []))
    (λ env. done_there env c.args.id c.args.label (act_of p c.args.act.now) (whole_of (map (λ p. record { there = is_some p.host; asks = p.count }) c.args.shelf.now.places.items) c.args.world.now)
    (lives_by (map (λ p. record { there = is_some p.host; asks = p.count }) c.args.shelf.now.places.items) c.args.world.now (the_effect c.args.id) refl (effect_listed c.args.id _ c.args.world.now.tables.effects.items c.in-Some.ensures)))
    (omega arith) c.in_ok-do_act.ensures.done
