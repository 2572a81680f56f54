use Rattle.std.proofs.Common.{refl, arith}
use Rattle.signal_model.specs.Signals.{standing}
use Rattle.effect_model.specs.Acts.{set_cell}
use Rattle.effect_model.specs.Owners.{the_signal}
use Rattle.effect_model.specs.Worlds as plain
use Rattle.effect_tables.specs.declared.thing.Thing.TheVariants as thing
use Rattle.sig_effect.specs.Wholes as wholes
use Rattle.sig_effect.specs.declared.events.Event.TheVariants as event
use Rattle.effect_world.specs.Signals.{any_hosts}
use Rattle.effect_world.specs.Wholes.{stores_of}
use Rattle.effect_world.proofs.Told.{one_told}
use Rattle.effect_world.proofs.Undone.{acts_none, kind_cell, kind_computed, kind_computing, kind_gone, set_gone, set_kept, undoes_still, undoes_told}
use Rattle.effect_world.proofs.world.World.set_signal.Goals as goal

pub returns-in_ok-push-in-Gone-clause-done : goal.returns-in_ok-push-in-Gone-clause-done
returns-in_ok-push-in-Gone-clause-done g c = λ asked a.
    undoes_told _ c.args.self.now asked _ _ (event.RefusedGone (thing.Signal c.args.id)) (plain.refused (plain.thing_gone (the_signal c.args.id))) any_hosts (λ env. set_cell env c.args.id c.args.value)
    c.in_ok-push-in-Gone.ensures.items
    (λ env. set_gone env c.args.id c.args.value (wholes.whole_of asked (stores_of c.args.self.now)) (kind_gone (standing c.args.self.now.graph.state.signals c.args.id) _ c.in-Gone.ensures)) refl a

pub set_there-requires-clause-kind : goal.set_there-requires-clause-kind
set_there-requires-clause-kind g c = kind_cell (standing c.args.self.now.graph.state.signals c.args.id) _ c.in-Cell.ensures

pub returns-in-Computed-clause-done : goal.returns-in-Computed-clause-done
returns-in-Computed-clause-done g c = λ asked a.
    undoes_still _ c.args.self.now asked _ _ any_hosts (λ env. set_cell env c.args.id c.args.value)
    (λ hosts sound. acts_none hosts asked c.args.self.now _ _ (set_kept _ c.args.id c.args.value (wholes.whole_of asked (stores_of c.args.self.now))
    (kind_computed (standing c.args.self.now.graph.state.signals c.args.id) _ c.in-Computed.ensures)) sound) a

pub returns-in-Computing-clause-done : goal.returns-in-Computing-clause-done
returns-in-Computing-clause-done g c = λ asked a.
    undoes_still _ c.args.self.now asked _ _ any_hosts (λ env. set_cell env c.args.id c.args.value)
    (λ hosts sound. acts_none hosts asked c.args.self.now _ _ (set_kept _ c.args.id c.args.value (wholes.whole_of asked (stores_of c.args.self.now))
    (kind_computing (standing c.args.self.now.graph.state.signals c.args.id) _ c.in-Computing.ensures)) sound) a

pub returns-in_ok-push-in-Gone-clause-told : goal.returns-in_ok-push-in-Gone-clause-told
returns-in_ok-push-in-Gone-clause-told g c = let m = one_told _ _ _ c.in_ok-push-in-Gone.ensures.items in omega (arith, m)

pub returns-in_ok-push-in-Gone-clause-agrees : goal.returns-in_ok-push-in-Gone-clause-agrees
returns-in_ok-push-in-Gone-clause-agrees g c = λ asked a. a

pub returns-in-Computed-clause-agrees : goal.returns-in-Computed-clause-agrees
returns-in-Computed-clause-agrees g c = λ asked a. a

pub returns-in-Computing-clause-agrees : goal.returns-in-Computing-clause-agrees
returns-in-Computing-clause-agrees g c = λ asked a. a
