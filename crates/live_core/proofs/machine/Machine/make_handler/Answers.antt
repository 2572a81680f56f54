use Rattle.std.proofs.Common.{◌≡◌, ◌<◌, ◌∙◌, ◌∷◌, ◌++◌, [], length, refl, sym, ap, subst}
use Rattle.sig_untrack.specs.Stated.{no_bodies}
use Rattle.effect_model.specs.Bodies.{Body}
use Rattle.effect_tables.specs.Bodies.{body_along, body_of}
use Rattle.effect_tables.specs.Scripts.{AreFitting}
use Rattle.effect_tables.specs.declared.effect.Script.{Script}
use Rattle.event_model.specs.declared.awaited.Awaited.{Awaited}
use Rattle.event_model.specs.declared.limits.TheConstants.{MOST_HANDLERS}
use Rattle.live_entries.specs.declared.refusal.LimitWord.TheVariants as limit
use Rattle.live_linking.proofs.Shared.{fit_links}
use Rattle.live_model.specs.Links.{linked_alone, links_of}
use Rattle.live_model.specs.Machine.{reached}
use Rattle.live_model.specs.Names.{number_of}
use Rattle.live_core.specs.Views.{handlers_of, plain_of}
use Rattle.live_core.proofs.Commands.{room_below}
use Rattle.live_core.proofs.Handled.{handlers_count, handlers_more, leaves_handler}
use Rattle.live_core.proofs.machine.Machine.make_handler.Goals as goal

pub add_handler-requires : goal.add_handler-requires
add_handler-requires c =
    let m = c.args.self.now in
    subst (λ n. n < MOST_HANDLERS) (handlers_count m.handlers m.scripts.items)
    (room_below MOST_HANDLERS (length (handlers_of m.handlers m.scripts.items)) limit.Handlers c.requires.room)

pub returns-clause-steps : goal.returns-clause-steps
returns-clause-steps c = λ hosts slacks asked sound.
    let m = c.args.self.now in
    let script : Script = record { body = c.into_body.result; links = c.in_ok-links.links } in
    let waits : Awaited = record { template = number_of m.names c.args.template.now; line = c.args.line; event = c.args.event.now } in
    let body : body_of 0 script [] ≡ linked_alone m.names c.args.body =
    (λ i. body_along 0 (c.into_body.ensures i) ((c.in_ok-links.ensures no_bodies ∙ ap (links_of m.names []) c.as_body.ensures) i) 0 []) in
    let named = c.of-number.ensures ∙ c.number_of.ensures in
    let handlers = c.in_ok-add_handler.ensures ∙ ap (λ t. m.handlers ++ record { template = t; line = c.args.line; event = c.args.event.now } ∷ []) named in
    record {
      step = (λ i. reached (record (plain_of asked m) {
        handlers = ((λ j. handlers_of (handlers j) (c.in_ok-push.ensures.items j))
            ∙ handlers_more m.handlers m.scripts.items waits script c.requires.ready.handled.many
            ∙ ap (λ (b : Body). handlers_of m.handlers m.scripts.items ++ record { awaited = waits; body = b } ∷ []) body) i;
      }) (c.new.ensures.items i));
      sound = sound;
    }

pub returns-clause-leaves : goal.returns-clause-leaves
returns-clause-leaves c = λ hosts asked rules sound.
    let m = c.args.self.now in
    let script : Script = record { body = c.into_body.result; links = c.in_ok-links.links } in
    let waits : Awaited = record { template = c.of-number.result; line = c.args.line; event = c.args.event.now } in
    let links = c.in_ok-links.ensures no_bodies ∙ ap (links_of m.names []) c.as_body.ensures in
    leaves_handler asked rules m (record m { handlers = c.add_handler.new.handlers; scripts = c.push.new.self }) waits script c.requires.ready refl
    c.in_ok-add_handler.ensures c.in_ok-push.ensures.items
    (record {
      fits = subst (λ x. x) (λ i. AreFitting (sym c.into_body.ensures i) (sym links i)) (fit_links m.names [] c.args.body c.requires.fit);
    })
