use Rattle.std.proofs.Common.{◌≡◌, ◌+◌, ◌∙◌, length, Ok, refl, sym, ap, subst, arith, map}
use Rattle.signal_model.specs.Signals.{Signals, Stands, standing}
use Rattle.sig_graph.specs.States.{State}
use Rattle.sig_state.specs.declared.sets.SetDone.{SetDone}
use Rattle.sig_state.specs.declared.sets.SetDone.TheVariants.{Accepted, Same}
use Rattle.sig_state.specs.Batches.{Collected, with_joining}
use Rattle.effect_world.specs.declared.world.World.{World}
use Rattle.sig_effect.specs.Stores.{AreRuled}
use Rattle.sig_effect.proofs.Shared.{accepted_over, joining_room, joins_other, joins_same, not_accepted, quiet_does, quiet_nothing, value_agrees}
use Rattle.effect_model.specs.declared.how.How.TheVariants.{Set}
use Rattle.sig_graph.proofs.Shared.{given_same}
use Rattle.sig_effect.proofs.Shared.{set_there}
use Rattle.sig_effect.proofs.Shared.{named_changed, named_still}
use Rattle.sig_effect.proofs.Shared.{ruled_value}
use Rattle.effect_model.specs.Batches.{set_quietly}
use Rattle.effect_world.specs.Wholes.{stores_of}
use Rattle.effect_world.proofs.Batched.{framed_quietly}
use Rattle.effect_world.proofs.Told.{one_told}
use Rattle.effect_world.proofs.Worlds.{changed_whole, changed_nothing}
use Rattle.effect_tables.specs.Placed.{effect_of}
use Rattle.effect_tables.proofs.Shared.{set_heard}
use Rattle.effect_world.proofs.world.World.set_in.Goals as goal

pub set_in-requires-clause-kind : goal.set_in-requires-clause-kind
set_in-requires-clause-kind g c = c.requires.can.kind

pub set_in-requires-clause-ruled : goal.set_in-requires-clause-ruled
set_in-requires-clause-ruled g c = c.requires.can.ruled

pub returns-in_ok-tell_change-in-Ok-Accepted-clause-changed : goal.returns-in_ok-tell_change-in-Ok-Accepted-clause-changed
returns-in_ok-tell_change-in-Ok-Accepted-clause-changed g c =
    let old : World = c.args.self.now in
    let e = c.set_in.ensures in
    let accepted : c.set_in.result ≡ Ok Accepted = c.in-Ok-Accepted.is ∙ ap (λ (x : SetDone). Ok x) c.in-Ok-Accepted.field-0-is in
    let after = e.accepted accepted in
    let new : World = record { graph = c.set_in.new.graph; watchers = old.watchers; tables = old.tables; heard = c.wake.new.self } in
    let over = accepted_over _ _ c.args.value c.set_in.result accepted c.requires.can.kind e.gone e.same in
    changed_whole _ old new _ _ 1 (λ env. set_quietly env c.args.id c.args.value)
    (λ hosts asked sound. quiet_does hosts _ asked (stores_of old) (stores_of new) _ _ c.args.id c.args.value over.cell over.stands over.off after refl
    c.in_ok-tell_change-in-Ok-Accepted.ensures sound)
    (λ asked a. value_agrees asked (stores_of old) (stores_of new) c.args.id c.args.value after refl a)
    (λ env. framed_quietly env c.args.id c.args.value)
    (λ count all. subst (λ (w : Signals). AreRuled count w) (sym (ap (λ (s : State). s.signals) after.state)) (ruled_value count old.graph.state.signals c.args.id c.args.value all))
    (λ named. named_changed c.set_in.new.graph old.watchers.made c.args.events.now.items c.tell_change.new.events.items c.args.id Set
    (given_same old.graph c.set_in.new.graph c.args.id after.given ∙ c.made-made.ensures.used.names c.args.id (set_there (standing old.graph.state.signals c.args.id) c.set_in.result accepted e.gone))
    c.in_ok-tell_change-in-Ok-Accepted.ensures (named_still old.graph c.set_in.new.graph old.watchers.made old.watchers.made _ after.given refl named))
    refl after.given refl (let w = ap (λ (s : State). s.worn) after.state in omega (arith, w))
    (let m = one_told _ _ _ c.in_ok-tell_change-in-Ok-Accepted.ensures in omega (arith, m))
    (set_heard c.args.id c.args.value old.graph.state.signals c.set_in.new.graph.state.signals old.heard c.wake.new.self (map effect_of old.tables.effects.items)
    (ap (λ (s : State). s.signals) after.state) c.wake.ensures)

pub returns-in_ok-tell_change-in-Ok-Accepted-clause-collects : goal.returns-in_ok-tell_change-in-Ok-Accepted-clause-collects
returns-in_ok-tell_change-in-Ok-Accepted-clause-collects g c =
    let e = c.set_in.ensures in
    let accepted : c.set_in.result ≡ Ok Accepted = c.in-Ok-Accepted.is ∙ ap (λ (x : SetDone). Ok x) c.in-Ok-Accepted.field-0-is in
    let over = accepted_over _ _ c.args.value c.set_in.result accepted c.requires.can.kind e.gone e.same in
    record {
      changed = ap (λ (b : Collected). b.changed) (e.joined accepted ∙ ap (λ (s : Stands). with_joining c.args.id s c.args.batch.now) over.stands)
          ∙ joins_other _ _ c.args.id c.args.value over.cell c.args.batch.now.changed over.stands over.off;
      room = ap (λ (b : Collected). length b.changed + b.spare) (e.joined accepted)
          ∙ joining_room c.args.id (standing c.args.self.now.graph.state.signals c.args.id) c.args.batch.now c.requires.room;
    }

pub returns-in-Ok-Same-clause-changed : goal.returns-in-Ok-Same-clause-changed
returns-in-Ok-Same-clause-changed g c =
    let old : World = c.args.self.now in
    let e = c.set_in.ensures in
    let same : c.set_in.result ≡ Ok Same = c.in-Ok-Same.is ∙ ap (λ (x : SetDone). Ok x) c.in-Ok-Same.field-0-is in
    let kept = e.kept (not_accepted c.set_in.result same) in
    let new : World = record { graph = c.set_in.new.graph; watchers = old.watchers; tables = old.tables; heard = old.heard } in
    changed_nothing _ old new _ 1 (λ env. set_quietly env c.args.id c.args.value) (λ i. record { graph = kept.0 i; watchers = old.watchers; tables = old.tables; heard = old.heard })
    (λ hosts asked sound. quiet_nothing hosts _ asked (stores_of old) _ c.args.id c.args.value (e.same.0 same) sound)
    (λ env. framed_quietly env c.args.id c.args.value)

pub returns-in-Ok-Same-clause-collects : goal.returns-in-Ok-Same-clause-collects
returns-in-Ok-Same-clause-collects g c =
    let e = c.set_in.ensures in
    let same : c.set_in.result ≡ Ok Same = c.in-Ok-Same.is ∙ ap (λ (x : SetDone). Ok x) c.in-Ok-Same.field-0-is in
    let kept = e.kept (not_accepted c.set_in.result same) in
    record {
      changed = ap (λ (b : Collected). b.changed) kept.1 ∙ joins_same _ (standing c.args.self.now.graph.state.signals c.args.id) c.args.id c.args.value _ (e.same.0 same);
      room = ap (λ (b : Collected). length b.changed + b.spare) kept.1;
    }
