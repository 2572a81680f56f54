use Rattle.std.proofs.Common.{◌≡◌, ◌∙◌, [], ◌∷◌, List, Ok, map, refl, sym, ap, subst, arith}
use Rattle.signal_model.specs.Signals.{Signals, standing}
use Rattle.effect_model.specs.Acts.{is_notified, notified_by, set_cell, waiting_if}
use Rattle.effect_model.specs.Worlds.{Watcher}
use Rattle.effect_model.specs.declared.how.How.TheVariants.{Set}
use Rattle.sig_graph.specs.States.{State}
use Rattle.sig_graph.proofs.Shared.{given_same}
use Rattle.sig_state.specs.declared.sets.SetDone.{SetDone}
use Rattle.sig_state.specs.declared.sets.SetDone.TheVariants.{Accepted, Same}
use Rattle.sig_watcher.specs.Tables.{with_each}
use Rattle.sig_watcher.specs.Notices.{told_entry}
use Rattle.sig_effect.specs.declared.events.Event.TheVariants as event
use Rattle.sig_effect.specs.Stores.{AreRuled}
use Rattle.sig_effect.proofs.Shared.{named_changed, named_still, not_accepted, ruled_value, same_does, set_accepted, set_agrees, set_there}
use Rattle.effect_laws.proofs.SharedFrames.{framed_set}
use Rattle.effect_tables.specs.Placed.{effect_of}
use Rattle.effect_tables.proofs.Shared.{set_heard}
use Rattle.effect_world.specs.declared.world.World.{World}
use Rattle.effect_world.specs.Wholes.{stores_of}
use Rattle.effect_world.proofs.Worlds.{changed_whole, changed_nothing, unwatched_same}
use Rattle.effect_world.proofs.world.World.change_unwatched.Goals as goal

pub set-requires-clause-kind : goal.set-requires-clause-kind
set-requires-clause-kind g c = c.requires.can.kind

pub set-requires-clause-ruled : goal.set-requires-clause-ruled
set-requires-clause-ruled g c = c.requires.can.ruled

pub returns-in-Ok-Accepted-clause-changed : goal.returns-in-Ok-Accepted-clause-changed
returns-in-Ok-Accepted-clause-changed g c =
    let old : World = c.args.self.now in
    let e = c.set.ensures in
    let accepted : c.set.result ≡ Ok Accepted = c.in-Ok-Accepted.is ∙ ap (λ (x : SetDone). Ok x) c.in-Ok-Accepted.field-0-is in
    let after = e.accepted accepted in
    let w : Signals = c.set.new.graph.state.signals in
    let m = c.set.new.graph.state.memos in
    let new : World = record { graph = c.set.new.graph; watchers = old.watchers; tables = old.tables; heard = c.wake.new.self } in
    let waits : old.watchers ≡ with_each (waiting_if (is_notified w m c.args.id)) old.watchers = unwatched_same (waiting_if (is_notified w m c.args.id)) old.watchers c.requires.none in
    let nobody : [] ≡ map told_entry (notified_by w m c.args.id old.watchers.watchers) =
    sym (ap (λ (ws : List Watcher). map told_entry (notified_by w m c.args.id ws)) c.requires.none) in
    changed_whole _ old new [] (event.Change c.args.id Set ∷ []) 1 (λ env. set_cell env c.args.id c.args.value)
    (λ hosts asked sound. set_accepted hosts _ asked (stores_of old) (stores_of new) [] (event.Change c.args.id Set ∷ []) c.args.id c.args.value c.set.result accepted c.requires.can.kind e.gone e.same after
    waits [] [] [] refl nobody refl (event.Change c.args.id Set ∷ []) refl refl sound)
    (λ asked a. set_agrees asked (stores_of old) (stores_of new) c.args.id c.args.value after waits a)
    (λ env. framed_set env c.args.id c.args.value)
    (λ count all. subst (λ (s : Signals). AreRuled count s) (sym (ap (λ (s : State). s.signals) after.state)) (ruled_value count old.graph.state.signals c.args.id c.args.value all))
    (λ named. named_changed c.set.new.graph old.watchers.made [] (event.Change c.args.id Set ∷ []) c.args.id Set
    (given_same old.graph c.set.new.graph c.args.id after.given ∙ c.made-made.ensures.used.names c.args.id (set_there (standing old.graph.state.signals c.args.id) c.set.result accepted e.gone))
    refl (named_still old.graph c.set.new.graph old.watchers.made old.watchers.made [] after.given refl named))
    refl after.given refl (let worn = ap (λ (s : State). s.worn) after.state in omega (arith, worn))
    (omega arith)
    (set_heard c.args.id c.args.value old.graph.state.signals c.set.new.graph.state.signals old.heard c.wake.new.self (map effect_of old.tables.effects.items)
    (ap (λ (s : State). s.signals) after.state) c.wake.ensures)

pub returns-in-Ok-Same-clause-changed : goal.returns-in-Ok-Same-clause-changed
returns-in-Ok-Same-clause-changed g c =
    let old : World = c.args.self.now in
    let e = c.set.ensures in
    let same : c.set.result ≡ Ok Same = c.in-Ok-Same.is ∙ ap (λ (x : SetDone). Ok x) c.in-Ok-Same.field-0-is in
    let new : World = record { graph = c.set.new.graph; watchers = old.watchers; tables = old.tables; heard = old.heard } in
    changed_nothing _ old new [] 1 (λ env. set_cell env c.args.id c.args.value)
    (λ i. record { graph = e.kept (not_accepted c.set.result same) i; watchers = old.watchers; tables = old.tables; heard = old.heard })
    (λ hosts asked sound. same_does hosts _ asked (stores_of old) (stores_of old) _ _ c.args.id c.args.value (e.same.0 same) refl refl sound)
    (λ env. framed_set env c.args.id c.args.value)
