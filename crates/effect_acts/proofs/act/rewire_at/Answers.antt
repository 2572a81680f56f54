use Rattle.std.proofs.Common.{map, sym, subst, ◌∙◌, arith}
use Rattle.std.specs.Prelude.{slice_get}
use Rattle.std.specs.Rc.{rc_value}
use Rattle.effect_model.specs.Acts.{rewire_signal}
use Rattle.sig_untrack.specs.Stated.{rewiring}
use Rattle.sig_nodes.specs.Answers.{expression_of}
use Rattle.sig_nodes.specs.Computations.{recipe_made}
use Rattle.effect_tables.specs.Scripts.{AreFew}
use Rattle.effect_tables.specs.Bodies.{rewired, target_thing}
use Rattle.effect_teardown.specs.Sites.{parts_of, slots_in}
use Rattle.effect_teardown.proofs.SharedSites.{part_few}
use Rattle.effect_acts.specs.Rewires.{IsMeant, rewire_meant}
use Rattle.effect_acts.proofs.Acts.{acted_lent}
use Rattle.effect_acts.proofs.Meant.{rewire_is}
use Rattle.effect_acts.proofs.act.rewire_at.Goals as goal

pub rewire-requires-clause-few : goal.rewire-requires-clause-few
rewire-requires-clause-few g c =
    c.in_ok-change.ensures.few
    (subst (λ x. x) (λ i. AreFew (map rewiring (sym c.deref-2.ensures.value i)) (slots_in (sym c.deref-3.ensures.value i)))
    (part_few (rc_value c.args.site.now.script) c.args.site.now.path.items c.args.body.now c.args.links.now c.requires.part c.requires.fits))

pub returns-clause-done : goal.returns-clause-done
returns-clause-done g c = λ slacks.
    let p = parts_of c.args.site.now.origin (rc_value c.args.site.now.script) c.args.site.now.path.items in
    let m : IsMeant c.in_ok-change.change (p.rewirings c.args.place) =
    subst (IsMeant c.in_ok-change.change)
    ((λ i. rewired (λ n. target_thing c.args.site.now.origin (slice_get (c.deref.ensures.value i) n)) (slice_get (map rewiring (c.deref-2.ensures.value i)) c.args.place)
    (slice_get (slots_in (c.deref-3.ensures.value i)) c.args.place))
    ∙ rewire_is (rc_value c.args.site.now.script) c.args.site.now.path.items c.args.body.now c.args.links.now c.requires.part c.args.site.now.origin c.args.place)
    c.in_ok-change.ensures.meant in
    acted_lent slacks _ _ _ _ 1 1 (λ env. rewire_signal c.in_ok-change.change.id (recipe_made (expression_of c.in_ok-change.change.recipe) c.in_ok-change.change.slots.items))
    (λ env. rewire_meant (p.rewirings c.args.place)) (λ env. λ i. rewire_signal (m.target i) (m.recipe i)) (omega arith) (c.in_ok-rewire.ensures.done slacks)
