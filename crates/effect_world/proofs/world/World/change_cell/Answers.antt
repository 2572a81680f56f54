use Rattle.std.proofs.Common.{◌≡◌, ◌∙◌, ◌++◌, ℕ, List, Ok, map, refl, sym, ap, subst, arith}
use Rattle.signal_model.specs.Signals.{Signals}
use Rattle.effect_model.specs.Acts.{is_notified, notified_by}
use Rattle.sig_graph.specs.States.{State}
use Rattle.sig_state.specs.declared.sets.SetDone.{SetDone}
use Rattle.sig_state.specs.declared.sets.SetDone.TheVariants.{Accepted, Same}
use Rattle.sig_watcher.specs.declared.recipients.Told.{Told}
use Rattle.sig_watcher.specs.Numbers.{AreNumbered}
use Rattle.sig_watcher.specs.Tables.{Table}
use Rattle.sig_watcher.specs.Notices.{told_entry}
use Rattle.effect_world.specs.declared.world.World.{World}
use Rattle.sig_effect.specs.Stores.{AreRuled}
use Rattle.sig_effect.specs.Results.{AreNotices}
use Rattle.effect_model.specs.declared.how.How.TheVariants.{Set}
use Rattle.sig_graph.proofs.Shared.{given_same}
use Rattle.signal_model.specs.Signals.{standing}
use Rattle.sig_effect.proofs.Shared.{not_accepted, same_does, set_accepted, set_agrees, set_there}
use Rattle.sig_effect.proofs.Shared.{named_changed, named_still, notices_named}
use Rattle.sig_effect.proofs.Shared.{ruled_value}
use Rattle.effect_model.specs.Acts.{set_cell}
use Rattle.effect_laws.proofs.SharedFrames.{framed_set}
use Rattle.effect_world.specs.Wholes.{stores_of}
use Rattle.effect_world.proofs.Told.{notices_told, one_told}
use Rattle.effect_world.proofs.Worlds.{changed_whole, changed_nothing}
use Rattle.effect_tables.specs.Placed.{effect_of}
use Rattle.effect_tables.proofs.Shared.{set_heard}
use Rattle.effect_world.proofs.world.World.change_cell.Goals as goal

pub set-requires-clause-kind : goal.set-requires-clause-kind
set-requires-clause-kind g c = c.requires.can.kind

pub set-requires-clause-ruled : goal.set-requires-clause-ruled
set-requires-clause-ruled g c = c.requires.can.ruled

pub returns-in-Ok-Accepted-clause-changed : goal.returns-in-Ok-Accepted-clause-changed
returns-in-Ok-Accepted-clause-changed g c =
    let old : World = c.args.self.now in
    let e = c.set.ensures in
    let accepted : c.set.result ≡ Ok Accepted = c.in-Ok-Accepted.is ∙ ap (λ (x : SetDone). Ok x) c.in-Ok-Accepted.field-0-is in
    let after = e.accepted accepted in
    let made = ap (λ (t : Table). t.made) c.tell.ensures.after in
    let new : World = record { graph = c.set.new.graph; watchers = c.tell.new.self; tables = old.tables; heard = c.wake.new.self } in
    changed_whole _ old new _ _ 1 (λ env. set_cell env c.args.id c.args.value)
    (λ hosts asked sound. set_accepted hosts _ asked (stores_of old) (stores_of new) _ _ c.args.id c.args.value c.set.result accepted c.requires.can.kind e.gone e.same after c.tell.ensures.after
    c.in_ok-told.told.items c.tell.new.told.items c.deref.result.now c.in_ok-told.ensures.items c.tell.ensures.told c.deref.ensures.value c.tell_change.new.events.items
    c.in_ok-tell_change-in-Ok-Accepted.ensures c.in_ok-tell_notified-in-Ok-Accepted.ensures sound)
    (λ asked a. set_agrees asked (stores_of old) (stores_of new) c.args.id c.args.value after c.tell.ensures.after a)
    (λ env. framed_set env c.args.id c.args.value)
    (λ count all. subst (λ (w : Signals). AreRuled count w) (sym (ap (λ (s : State). s.signals) after.state)) (ruled_value count old.graph.state.signals c.args.id c.args.value all))
    (λ named.
    let told : c.deref.result.now ≡ map told_entry (notified_by c.set.new.graph.state.signals c.set.new.graph.state.memos c.args.id old.watchers.watchers) =
    c.deref.ensures.value ∙ c.tell.ensures.told ∙ ap (λ (ts : List Told). ts ++ map told_entry (notified_by c.set.new.graph.state.signals c.set.new.graph.state.memos c.args.id old.watchers.watchers)) c.in_ok-told.ensures.items in
    notices_named c.set.new.graph c.tell.new.self.made old.watchers.watchers (is_notified c.set.new.graph.state.signals c.set.new.graph.state.memos c.args.id) _ _
    (subst (λ (n : ℕ). AreNumbered old.watchers.watchers n) (sym made) c.live.ensures.numbered)
    (subst (λ (ts : List Told). AreNotices ts c.tell_change.new.events.items c.tell_notified.new.events.items) told c.in_ok-tell_notified-in-Ok-Accepted.ensures)
    (named_changed c.set.new.graph c.tell.new.self.made c.args.events.now.items c.tell_change.new.events.items c.args.id Set
    (given_same old.graph c.set.new.graph c.args.id after.given ∙ c.made-made.ensures.used.names c.args.id (set_there (standing old.graph.state.signals c.args.id) c.set.result accepted e.gone))
    c.in_ok-tell_change-in-Ok-Accepted.ensures (named_still old.graph c.set.new.graph old.watchers.made c.tell.new.self.made _ after.given made named)))
    refl after.given made (let w = ap (λ (s : State). s.worn) after.state in omega (arith, w))
    (let m = one_told _ _ _ c.in_ok-tell_change-in-Ok-Accepted.ensures in let n = notices_told c.deref.result.now c.tell_change.new.events.items c.tell_notified.new.events.items c.in_ok-tell_notified-in-Ok-Accepted.ensures in omega (arith, m, n))
    (set_heard c.args.id c.args.value old.graph.state.signals c.set.new.graph.state.signals old.heard c.wake.new.self (map effect_of old.tables.effects.items)
    (ap (λ (s : State). s.signals) after.state) c.wake.ensures)

pub returns-in-Ok-Same-clause-changed : goal.returns-in-Ok-Same-clause-changed
returns-in-Ok-Same-clause-changed g c =
    let old : World = c.args.self.now in
    let e = c.set.ensures in
    let same : c.set.result ≡ Ok Same = c.in-Ok-Same.is ∙ ap (λ (x : SetDone). Ok x) c.in-Ok-Same.field-0-is in
    let new : World = record { graph = c.set.new.graph; watchers = old.watchers; tables = old.tables; heard = old.heard } in
    changed_nothing _ old new _ 1 (λ env. set_cell env c.args.id c.args.value)
    (λ i. record { graph = e.kept (not_accepted c.set.result same) i; watchers = old.watchers; tables = old.tables; heard = old.heard })
    (λ hosts asked sound. same_does hosts _ asked (stores_of old) (stores_of old) _ _ c.args.id c.args.value (e.same.0 same) refl refl sound)
    (λ env. framed_set env c.args.id c.args.value)
