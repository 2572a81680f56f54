use Rattle.std.proofs.Common.{arith, refl, ap, sym, subst, ◌∙◌, map}
use Rattle.signal_model.specs.Recipes.{Recipe}
use Rattle.signal_model.specs.Signals.{Signals}
use Rattle.effect_model.specs.Acts.{host_of}
use Rattle.effect_model.specs.Worlds as plain
use Rattle.sig_nodes.specs.Answers.{expression_of}
use Rattle.sig_nodes.specs.Computations.{recipe_made}
use Rattle.sig_graph.specs.States.{State}
use Rattle.sig_effect.specs.Stores.{AreRuled}
use Rattle.sig_effect.specs.Wholes as wholes
use Rattle.sig_effect.proofs.Shared.{computed_agrees, computed_does, none_there, ruled_computed}
use Rattle.effect_world.specs.declared.world.World.{World}
use Rattle.effect_world.specs.Wholes.{stores_of}
use Rattle.effect_world.proofs.Worlds.{computed_done, host_same, owned_more}
use Rattle.effect_tables.specs.Placed.{effect_of}
use Rattle.effect_world.proofs.Kept.{computed_heard}
use Rattle.effect_world.proofs.world.World.make_computed.Goals as goal

pub add_computed-requires-clause-given : goal.add_computed-requires-clause-given
add_computed-requires-clause-given c = c.requires.links.given

pub add_computed-requires-clause-few : goal.add_computed-requires-clause-few
add_computed-requires-clause-few c = c.requires.links.few

pub adopt_signal-requires-clause-lone : goal.adopt_signal-requires-clause-lone
adopt_signal-requires-clause-lone c = let same = c.in_ok-id.ensures.after.id in c.requires.owned.fresh c.in_ok-id.id (omega (arith, same))

pub returns-in-Ok-clause-made : goal.returns-in-Ok-clause-made
returns-in-Ok-clause-made c =
    let m = c.in_ok-id.ensures.after in
    record { next = m.id; given = m.given; worn = ap (λ (s : State). s.worn) m.state; watchers = refl }

pub returns-in-Ok-clause-does : goal.returns-in-Ok-clause-does
returns-in-Ok-clause-does c = λ hosts asked a free sound.
    let new : World = record { graph = c.add_computed.new.self; watchers = c.args.self.now.watchers; tables = c.adopt_signal.new.self; heard = c.args.self.now.heard } in
    let r : Recipe = recipe_made (expression_of c.args.recipe) c.args.slots.items in
    let m = c.in_ok-id.ensures.after in
    computed_done hosts asked c.args.self.now new r c.args.inside c.in_ok-id.id m.id
    (computed_does hosts asked (stores_of c.args.self.now) (stores_of new) r c.in_ok-id.id m refl a.signals
    (sym (host_same (host_of (expression_of c.args.recipe)) c.args.self.now.tables (wholes.whole_of asked (stores_of c.args.self.now))) ∙ free) sound)
    c.in-Ok.ensures.makes.holds c.in-Ok.ensures.makes.does

pub returns-in-Ok-clause-agrees : goal.returns-in-Ok-clause-agrees
returns-in-Ok-clause-agrees c = λ asked a free.
    let new : World = record { graph = c.add_computed.new.self; watchers = c.args.self.now.watchers; tables = c.adopt_signal.new.self; heard = c.args.self.now.heard } in
    let r : Recipe = recipe_made (expression_of c.args.recipe) c.args.slots.items in
    let m = c.in_ok-id.ensures.after in
    record {
      signals = computed_agrees asked (stores_of c.args.self.now) (stores_of new) r c.in_ok-id.id m refl a.signals
          (sym (host_same (host_of (expression_of c.args.recipe)) c.args.self.now.tables (wholes.whole_of asked (stores_of c.args.self.now))) ∙ free);
      owned = owned_more c.args.self.now new c.args.inside c.in_ok-id.id m.id m.given
          (ap (λ (w : plain.World). w.owned) (c.in-Ok.ensures.makes.does (wholes.whole_of asked (stores_of new)))) c.in-Ok.ensures.makes.holds c.in-Ok.ensures.makes.signals a.owned;
      heard = computed_heard c.args.self.now.graph.state.signals c.add_computed.new.self.state.signals (record { name = c.in_ok-id.id; recipe = r }) c.args.self.now.heard
          (map effect_of c.args.self.now.tables.effects.items) (map effect_of c.adopt_signal.new.self.effects.items) (ap (λ (s : State). s.signals) m.state)
          (ap (λ (w : plain.World). w.effects) (c.in-Ok.ensures.makes.does (wholes.whole_of asked (stores_of new)))) a.heard;
    }

pub returns-in-Ok-clause-ruled : goal.returns-in-Ok-clause-ruled
returns-in-Ok-clause-ruled c = λ rules all.
    let m = c.in_ok-id.ensures.after in
    subst (λ (w : Signals). AreRuled rules w) (sym (ap (λ (s : State). s.signals) m.state))
    (ruled_computed rules c.args.self.now.graph.state.signals (record { name = c.in_ok-id.id; recipe = recipe_made (expression_of c.args.recipe) c.args.slots.items })
    (none_there c.args.self.now.graph c.in_ok-id.id m.used m.fresh) all)
