use Rattle.std.proofs.Common.{◌≡◌, ◌∷◌, true, map, is_some, refl, sym, ap, subst, ◌∙◌, arith}
use Rattle.signal_model.specs.Recipes.{Recipe}
use Rattle.sig_nodes.specs.Answers.{expression_of}
use Rattle.sig_nodes.specs.Computations.{recipe_made}
use Rattle.sig_graph.specs.States.{State, are_there}
use Rattle.effect_world.specs.declared.world.World.{World}
use Rattle.sig_effect.proofs.Shared.{computed_here, most_left, rewire_agreed, rewire_done, ruled_recipe, there_by}
use Rattle.sig_effect.specs.Results.{drop_events}
use Rattle.sig_effect.specs.Stores.{AreRuled}
use Rattle.effect_model.specs.declared.how.How.TheVariants.{Rewire}
use Rattle.signal_model.specs.Signals.{Signals, is_there, standing}
use Rattle.sig_graph.proofs.Shared.{given_same}
use Rattle.effect_laws.proofs.Shared.{both}
use Rattle.sig_effect.proofs.Shared.{named_changed, named_left, named_still}
use Rattle.sig_effect.proofs.Shared.{uses_by}
use Rattle.effect_model.specs.Acts.{host_of, rewire_signal}
use Rattle.effect_laws.proofs.SharedFrames.{framed_rewire}
use Rattle.effect_world.specs.Wholes.{stores_of}
use Rattle.effect_world.proofs.Told.{more_told, one_told}
use Rattle.effect_world.proofs.Worlds.{host_same, owned_still, signals_done}
use Rattle.effect_tables.specs.Placed.{effect_of}
use Rattle.effect_world.proofs.Kept.{recipe_heard}
use Rattle.effect_world.proofs.world.World.rewire.Goals as goal

pub drop_left-requires-clause-there : goal.drop_left-requires-clause-there
drop_left-requires-clause-there g c = λ place e. c.requires.agrees.signals.there.each place (uses_by _ c.args.id place (sym c.in_ok-left.ensures.host ∙ e))

pub rewire-requires-clause-kind : goal.rewire-requires-clause-kind
rewire-requires-clause-kind g c = c.requires.can.kind

pub rewire-requires-clause-given : goal.rewire-requires-clause-given
rewire-requires-clause-given g c = c.requires.can.links.given

pub rewire-requires-clause-few : goal.rewire-requires-clause-few
rewire-requires-clause-few g c = c.requires.can.links.few

pub rewire-requires-clause-worn : goal.rewire-requires-clause-worn
rewire-requires-clause-worn g c = c.requires.can.worn

pub returns-clause-done : goal.returns-clause-done
returns-clause-done g c = λ slacks.
    let old : World = c.args.self.now in
    let new : World = record { graph = c.rewire.new.self; watchers = old.watchers; tables = old.tables; heard = old.heard } in
    let r : Recipe = recipe_made (expression_of c.args.recipe) c.args.slots.items in
    let w : Signals = old.graph.state.signals in
    let b = c.in_ok-left.ensures.after in
    let there : are_there w (c.args.id ∷ r.slots) ≡ true = there_by _ _ c.in_ok-left.ensures.gone (λ q. cc) in
    let two = both (is_there (standing w c.args.id)) (are_there w r.slots) there in
    let here = computed_here (standing w c.args.id) two.0 c.requires.can.kind in
    let free = sym (host_same (host_of (expression_of c.args.recipe)) old.tables _) ∙ c.requires.can.free in
    let m = one_told _ _ _ c.in_ok-tell_change.ensures in
    let n = more_told _ _ (drop_events c.in_ok-left.left (map (λ p. record { there = is_some p.host; asks = p.count }) c.args.shelf.now.places.items)) c.in_ok-drop_left.ensures.events in
    let s = ap (λ (x : State). x.worn) b.state in
    record {
      does = λ hosts sound.
          signals_done hosts _ _ old new _ _ (rewire_signal c.args.id r)
          (rewire_done hosts _ _ (stores_of old) (stores_of new) _ _ c.args.id r c.in_ok-left.left c.requires.can.kind there b refl c.requires.agrees.signals free
          c.in_ok-left.ensures.host c.in_ok-drop_left.ensures.asked c.tell_change.new.events.items c.in_ok-tell_change.ensures
          c.in_ok-drop_left.ensures.events sound)
          (framed_rewire c.args.id r) refl c.requires.agrees.owned.tables;
      agrees = record {
        signals = rewire_agreed _ _ (stores_of old) (stores_of new) c.args.id r c.in_ok-left.left c.requires.can.kind there b refl free
            c.in_ok-left.ensures.host c.in_ok-drop_left.ensures.asked c.requires.agrees.signals;
        owned = owned_still old new b.given refl c.requires.agrees.owned;
        heard = recipe_heard w c.rewire.new.self.state.signals c.args.id r old.heard (map effect_of old.tables.effects.items) (ap (λ (x : State). x.signals) b.state) c.requires.agrees.heard;
      };
      answers = c.in_ok-drop_left.ensures.answers;
      most = most_left c.in_ok-left.left _ _ c.in_ok-drop_left.ensures.asked;
      rules = λ count all. subst (λ (x : Signals). AreRuled count x) (sym (ap (λ (x : State). x.signals) b.state)) (ruled_recipe count w c.args.id r here.0 here.1 all);
      given = b.given;
      made = refl;
      worn = omega (arith, s, m, n);
      told = omega (arith, m, n);
    }

pub returns-clause-rewired : goal.returns-clause-rewired
returns-clause-rewired g c =
    let old : World = c.args.self.now in
    let r : Recipe = recipe_made (expression_of c.args.recipe) c.args.slots.items in
    let b = c.in_ok-left.ensures.after in
    let there : are_there old.graph.state.signals (c.args.id ∷ r.slots) ≡ true = there_by _ _ c.in_ok-left.ensures.gone (λ q. cc) in
    let two = both (is_there (standing old.graph.state.signals c.args.id)) (are_there old.graph.state.signals r.slots) there in
    record {
      signals = ap (λ (x : State). x.signals) b.state;
      watchers = refl;
      stays = record { given = b.given; made = refl; worn = let s = ap (λ (x : State). x.worn) b.state in omega (arith, s) };
      named = λ all.
          named_left c.rewire.new.self c.rewire.new.self old.watchers.made c.in_ok-left.left _ c.tell_change.new.events.items _ refl
          c.in_ok-drop_left.ensures.events
          (named_changed c.rewire.new.self old.watchers.made c.args.events.now.items c.tell_change.new.events.items c.args.id Rewire
          (given_same old.graph c.rewire.new.self c.args.id b.given ∙ c.made-made.ensures.used.names c.args.id two.0)
          c.in_ok-tell_change.ensures
          (named_still old.graph c.rewire.new.self old.watchers.made old.watchers.made _ b.given refl all));
    }
