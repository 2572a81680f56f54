use Rattle.std.proofs.Common.{refl, ap, arith}
use Rattle.effect_model.specs.Batches.{abort}
use Rattle.sig_watcher.specs.Tables.{Table}
use Rattle.sig_effect.proofs.SharedKinds.{all_keep_kinds}
use Rattle.live_core.proofs.Batched.{aborted_steps, roomy_none, stays_quiet}
use Rattle.live_core.proofs.Commands.{acts_steps, leaves_batched, tells_by}
use Rattle.live_core.proofs.machine.Machine.abort.Goals as goal

pub returns-clause-steps : goal.returns-clause-steps
returns-clause-steps c = λ hosts slacks asked sound.
    let m = c.args.self.now in
    let act = abort c.in-Some.batch.changed in
    let t = c.in_ok-told.ensures in
    aborted_steps hosts asked m c.abort.new.self c.tell_all.new.labels c.tell_all.new.journal c.take.new.self c.take.result c.in_ok-told.told.items c.in-Some.batch
    c.take.ensures.value c.in-Some.is c.take.ensures.after
    (acts_steps hosts asked asked m c.abort.new.self c.tell_all.new.labels c.tell_all.new.journal c.new-events.result.items c.abort.new.events.items act act c.in_ok-told.told.items
    c.new-events.ensures.items (c.in_ok-abort.ensures.changed.does hosts asked c.requires.owned sound) refl
    (tells_by m.labels c.tell_all.new.labels m.journal c.tell_all.new.journal c.abort.new.events.items _ c.in_ok-told.told.items c.deref.ensures.value t.entries t.labels t.noted t.names))

pub returns-clause-leaves : goal.returns-clause-leaves
returns-clause-leaves c = λ hosts asked count sound.
    let m = c.args.self.now in
    let e = c.in_ok-abort.ensures in
    leaves_batched asked asked count m c.abort.new.self c.tell_all.new.labels c.tell_all.new.journal c.take.new.self c.requires.ready c.in_ok-told.ensures.names
    (stays_quiet asked m.world c.abort.new.self (abort c.in-Some.batch.changed) (e.changed.does hosts asked c.requires.owned sound).whole
    (all_keep_kinds.aborting c.in-Some.batch.changed) e.changed.given (ap (λ (t : Table). t.made) e.watchers) e.tables)
    e.tables (roomy_none c.abort.new.self.graph.state.signals c.take.new.self c.take.ensures.after) (λ a. e.changed.agrees asked a) (λ r. e.changed.rules count r)
    (let w = e.changed.worn in let t = ap (λ x. x.effects_made) e.tables in let l = c.len-count.ensures in omega (arith, w, t, l))
