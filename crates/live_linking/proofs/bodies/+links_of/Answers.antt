use Rattle.std.proofs.Common.{◌∙◌, ◌++◌, ◌∷◌, [], List, map, take, sym, ap, take_all}
use Rattle.std.proofs.lemmas.List.{take_more}
use Rattle.effect_tables.specs.declared.links.Links.TheFolds.{fold-roll-Links}
use Rattle.effect_tables.specs.declared.links.Links.{Links}
use Rattle.effect_tables.specs.Bodies.{Linking, all_before, links_before, links_step}
use Rattle.sig_untrack.specs.declared.body.Body.{Body}
use Rattle.sig_untrack.specs.Stated.{bodies_before, rewiring}
use Rattle.live_model.specs.Links.{links_of, target_named}
use Rattle.live_model.specs.Names.{number_of}
use Rattle.live_linking.proofs.Linked.{nested_more, whole_links}
use Rattle.live_linking.proofs.bodies.+links_of.Goals as goal

pub returns : goal.returns
returns t c = λ others.
    let b = c.args.body.now in
    let names = c.args.names.now in
    let own = c.args.own.now in
    let all = take_all c.loop-nested.nested-index c.deref-nested-items.result.now c.loop-nested-test.false in
    ap (λ (f : Linking → Linking). f (links_of names own others)) (fold-roll-Links (Linking → Linking) links_step _)
    ∙ whole_links names own b c.in_ok-signals.signals.items c.in_ok-targets.targets.items c.loop-nested.inner.items (map (λ s. s.ids.items) c.in_ok-rewires.rewires.items)
    (c.in_ok-signals.ensures ∙ ap (map (number_of names)) c.deref.ensures.value)
    (c.in_ok-targets.ensures ∙ ap (map (target_named names own)) c.deref-2.ensures.value)
    (λ more. c.loop-nested.invariant more ∙ ap (λ (bs : List Body). links_of names own (bodies_before bs more)) (all ∙ c.deref-nested-items.ensures.value))
    (c.in_ok-rewires.ensures ∙ ap (λ rs. map (λ r. map (number_of names) r.names) (map rewiring rs)) c.deref-3.ensures.value) others

pub loop-nested-preserved : goal.loop-nested-preserved
loop-nested-preserved t c = λ others.
    let names = c.args.names.now in
    let own = c.args.own.now in
    let bs = c.deref-nested-items.result.now in
    let more = take_more bs c.loop-nested.nested-index c.nested-item.result c.loop-nested-test.true ∙ ap (λ (b : Body). take c.loop-nested.nested-index bs ++ b ∷ []) (sym c.nested-item.is) in
    ap (λ (ls : List Links). all_before (map links_before ls) (links_of names own others)) c.in_ok-push.ensures.items
    ∙ nested_more names own c.loop-nested.inner.items c.in_ok-links_of.field-0 (take c.loop-nested.nested-index bs) c.nested-item.result c.loop-nested.invariant c.in_ok-links_of.ensures others
    ∙ ap (λ (xs : List Body). links_of names own (bodies_before xs others)) (sym more)
