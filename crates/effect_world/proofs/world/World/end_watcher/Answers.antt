use Rattle.std.proofs.Common.{Err, refl, ap, arith}
use Rattle.effect_model.specs.Acts.{undo}
use Rattle.effect_model.specs.Owners.{the_watcher, ends}
use Rattle.effect_model.specs.Worlds as plain
use Rattle.effect_tables.specs.declared.thing.Thing.TheVariants as thing
use Rattle.sig_watcher.specs.Tables.{Table}
use Rattle.sig_effect.specs.declared.events.Event.TheVariants as event
use Rattle.sig_effect.specs.Wholes as wholes
use Rattle.sig_effect.proofs.Shared.{named_gone, named_still, remove_agrees, remove_does}
use Rattle.effect_world.specs.declared.world.World.{World}
use Rattle.effect_world.specs.Signals.{any_hosts}
use Rattle.effect_world.specs.Wholes.{stores_of}
use Rattle.effect_world.proofs.Told.{one_told}
use Rattle.effect_world.proofs.Undone.{undoes_one, undoes_to, undoes_told, watcher_gone}
use Rattle.effect_world.proofs.world.World.end_watcher.Goals as goal

pub returns-in_ok-tell_gone-in-Ok-clause-done : goal.returns-in_ok-tell_gone-in-Ok-clause-done
returns-in_ok-tell_gone-in-Ok-clause-done c = λ slacks asked a.
    let new : World = record { graph = c.args.self.now.graph; watchers = c.remove.new.self; tables = c.args.self.now.tables; heard = c.args.self.now.heard } in
    let removed = c.in-Ok.ensures.after in
    undoes_one slacks c.args.self.now new asked asked _ _ any_hosts any_hosts (λ env. undo env (ends (the_watcher c.args.id)))
    (λ hosts sound. remove_does hosts slacks asked (stores_of c.args.self.now) (stores_of new) _ _ c.args.id refl removed c.in_ok-tell_gone-in-Ok.ensures sound)
    (remove_agrees asked (stores_of c.args.self.now) (stores_of new) c.args.id refl removed a) (λ hosts h. h) (omega arith) (λ count h. h)
    refl (record { given = refl; made = ap (λ (t : Table). t.made) removed; worn = omega arith })

pub returns-in_ok-tell_gone-in-Ok-clause-told : goal.returns-in_ok-tell_gone-in-Ok-clause-told
returns-in_ok-tell_gone-in-Ok-clause-told c = let m = one_told _ _ _ c.in_ok-tell_gone-in-Ok.ensures in omega (arith, m)

pub returns-in_ok-tell_gone-in-Ok-clause-named : goal.returns-in_ok-tell_gone-in-Ok-clause-named
returns-in_ok-tell_gone-in-Ok-clause-named c = λ below all.
    let made = ap (λ (t : Table). t.made) c.in-Ok.ensures.after in
    named_gone c.args.self.now.graph c.remove.new.self.made _ _ (thing.Watcher c.args.id) (omega (arith, made, below)) c.in_ok-tell_gone-in-Ok.ensures
    (named_still c.args.self.now.graph c.args.self.now.graph c.args.self.now.watchers.made c.remove.new.self.made _ refl made all)

pub returns-in_ok-tell_gone-in-Err-clause-done : goal.returns-in_ok-tell_gone-in-Err-clause-done
returns-in_ok-tell_gone-in-Err-clause-done c = λ slacks asked a.
    let new : World = record { graph = c.args.self.now.graph; watchers = c.remove.new.self; tables = c.args.self.now.tables; heard = c.args.self.now.heard } in
    undoes_to slacks c.args.self.now new asked _ _ any_hosts _ (λ i. record { graph = c.args.self.now.graph; watchers = c.in-Err.ensures.err i; tables = c.args.self.now.tables; heard = c.args.self.now.heard })
    (undoes_told slacks c.args.self.now asked _ _ (event.Gone (thing.Watcher c.args.id)) (plain.gone (the_watcher c.args.id)) any_hosts (λ env. undo env (ends (the_watcher c.args.id)))
    c.in_ok-tell_gone-in-Err.ensures
    (λ env. watcher_gone env c.args.id (wholes.whole_of asked (stores_of c.args.self.now)) (c.in-Err.ensures.gone.0 (ap (λ e. Err e) c.in-Err.ensures.fault))) refl a)

pub returns-in_ok-tell_gone-in-Err-clause-told : goal.returns-in_ok-tell_gone-in-Err-clause-told
returns-in_ok-tell_gone-in-Err-clause-told c = let m = one_told _ _ _ c.in_ok-tell_gone-in-Err.ensures in omega (arith, m)

pub returns-in_ok-tell_gone-in-Err-clause-named : goal.returns-in_ok-tell_gone-in-Err-clause-named
returns-in_ok-tell_gone-in-Err-clause-named c = λ below all.
    let made = ap (λ (t : Table). t.made) c.in-Err.ensures.err in
    named_gone c.args.self.now.graph c.remove.new.self.made _ _ (thing.Watcher c.args.id) (omega (arith, made, below)) c.in_ok-tell_gone-in-Err.ensures
    (named_still c.args.self.now.graph c.args.self.now.graph c.args.self.now.watchers.made c.remove.new.self.made _ refl made all)
