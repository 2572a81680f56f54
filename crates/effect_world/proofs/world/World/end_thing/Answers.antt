use Rattle.std.proofs.Common.{map, is_some, ap, sym, refl, arith}
use Rattle.effect_model.specs.Acts.{undo}
use Rattle.effect_model.specs.Owners.{ends, the_effect, the_owner, the_page, the_signal, the_watcher}
use Rattle.effect_model.specs.Worlds as plain
use Rattle.effect_tables.specs.declared.thing.Thing.TheVariants as thing
use Rattle.effect_tables.specs.Bodies.{thing_of}
use Rattle.sig_effect.specs.Wholes as wholes
use Rattle.sig_effect.specs.declared.events.Event.TheVariants as event
use Rattle.effect_world.specs.Wholes.{stores_of}
use Rattle.effect_world.proofs.Told.{one_told}
use Rattle.effect_world.proofs.Undone.{undoes_as, undoes_lent, undoes_told}
use Rattle.effect_world.proofs.world.World.end_thing.Goals as goal

pub returns-in_ok-end_signal-in-Signal-clause-done : goal.returns-in_ok-end_signal-in-Signal-clause-done
returns-in_ok-end_signal-in-Signal-clause-done g c = λ slacks.
    undoes_as _ _ _ _ _ 1 (λ env. undo env (ends (the_signal c.in-Signal.id))) (λ env. undo env (ends (thing_of c.args.thing.now))) (λ env. ap (λ t. undo env (ends (thing_of t))) (sym c.in-Signal.is))
    (c.in_ok-end_signal-in-Signal.ensures.done slacks)

pub returns-in_ok-end_watcher-in-Watcher-clause-done : goal.returns-in_ok-end_watcher-in-Watcher-clause-done
returns-in_ok-end_watcher-in-Watcher-clause-done g c = λ slacks.
    undoes_as _ _ _ _ _ 1 (λ env. undo env (ends (the_watcher c.in-Watcher.id))) (λ env. undo env (ends (thing_of c.args.thing.now))) (λ env. ap (λ t. undo env (ends (thing_of t))) (sym c.in-Watcher.is))
    (undoes_lent _ _ _ _ 1 _ (c.in_ok-end_watcher-in-Watcher.ensures.done slacks _ c.requires.agrees))

pub returns-in_ok-tell_gone-in-Owner-clause-done : goal.returns-in_ok-tell_gone-in-Owner-clause-done
returns-in_ok-tell_gone-in-Owner-clause-done g c = λ slacks.
    undoes_told slacks c.args.self.now (map (λ p. record { there = is_some p.host; asks = p.count }) c.args.shelf.now.places.items) _ _ (event.Gone (thing.Owner c.in-Owner.id)) (plain.gone (the_owner c.in-Owner.id)) _ (λ env. undo env (ends (thing_of c.args.thing.now)))
    c.in_ok-tell_gone-in-Owner.ensures (λ env. ap (λ t. undo env (ends (thing_of t)) (wholes.whole_of (map (λ p. record { there = is_some p.host; asks = p.count }) c.args.shelf.now.places.items) (stores_of c.args.self.now))) c.in-Owner.is) refl c.requires.agrees

pub returns-in_ok-tell_gone-in-Effect-clause-done : goal.returns-in_ok-tell_gone-in-Effect-clause-done
returns-in_ok-tell_gone-in-Effect-clause-done g c = λ slacks.
    undoes_told slacks c.args.self.now (map (λ p. record { there = is_some p.host; asks = p.count }) c.args.shelf.now.places.items) _ _ (event.Gone (thing.Effect c.in-Effect.id)) (plain.gone (the_effect c.in-Effect.id)) _ (λ env. undo env (ends (thing_of c.args.thing.now)))
    c.in_ok-tell_gone-in-Effect.ensures (λ env. ap (λ t. undo env (ends (thing_of t)) (wholes.whole_of (map (λ p. record { there = is_some p.host; asks = p.count }) c.args.shelf.now.places.items) (stores_of c.args.self.now))) c.in-Effect.is) refl c.requires.agrees

pub returns-in_ok-tell_gone-in-Page-clause-done : goal.returns-in_ok-tell_gone-in-Page-clause-done
returns-in_ok-tell_gone-in-Page-clause-done g c = λ slacks.
    undoes_told slacks c.args.self.now (map (λ p. record { there = is_some p.host; asks = p.count }) c.args.shelf.now.places.items) _ _ (event.Gone (thing.Page c.in-Page.id)) (plain.gone (the_page c.in-Page.id)) _ (λ env. undo env (ends (thing_of c.args.thing.now)))
    c.in_ok-tell_gone-in-Page.ensures (λ env. ap (λ t. undo env (ends (thing_of t)) (wholes.whole_of (map (λ p. record { there = is_some p.host; asks = p.count }) c.args.shelf.now.places.items) (stores_of c.args.self.now))) c.in-Page.is) refl c.requires.agrees

pub returns-in_ok-tell_gone-in-Owner-clause-told : goal.returns-in_ok-tell_gone-in-Owner-clause-told
returns-in_ok-tell_gone-in-Owner-clause-told g c = let m = one_told _ _ _ c.in_ok-tell_gone-in-Owner.ensures in omega (arith, m)

pub returns-in_ok-tell_gone-in-Effect-clause-told : goal.returns-in_ok-tell_gone-in-Effect-clause-told
returns-in_ok-tell_gone-in-Effect-clause-told g c = let m = one_told _ _ _ c.in_ok-tell_gone-in-Effect.ensures in omega (arith, m)

pub returns-in_ok-tell_gone-in-Page-clause-told : goal.returns-in_ok-tell_gone-in-Page-clause-told
returns-in_ok-tell_gone-in-Page-clause-told g c = let m = one_told _ _ _ c.in_ok-tell_gone-in-Page.ensures in omega (arith, m)
