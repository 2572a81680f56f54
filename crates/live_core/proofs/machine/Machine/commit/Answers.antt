use Rattle.std.proofs.Common.{map, refl, sym, ap, subst, arith}
use Rattle.effect_model.specs.Batches.{commit}
use Rattle.sig_graph.specs.States.{Seen}
use Rattle.sig_effect.proofs.SharedKinds.{all_keep_kinds}
use Rattle.sig_effect.specs.Stores.{environment, AreRuled}
use Rattle.live_core.proofs.Batched.{committed_steps, roomy_none, stays_quiet}
use Rattle.live_core.proofs.Commands.{acts_steps, leaves_batched, tells_by}
use Rattle.live_core.proofs.machine.Machine.commit.Goals as goal

pub commit-requires-clause-ruled : goal.commit-requires-clause-ruled
commit-requires-clause-ruled g c = λ n there. c.requires.ruled.each n

pub returns-clause-steps : goal.returns-clause-steps
returns-clause-steps g c = λ hosts asked sound.
    let m = c.args.self.now in
    let env = environment hosts (map (λ r. r.slack) c.args.rules.now) in
    let act = commit env c.in-Some.batch.changed in
    let t = c.in_ok-told.ensures in
    committed_steps hosts env asked m c.commit.new.self c.tell_all.new.labels c.tell_all.new.journal c.take.new.self c.take.result c.in_ok-told.told.items c.in-Some.batch
    c.take.ensures.value c.in-Some.is c.take.ensures.after
    (acts_steps hosts asked asked m c.commit.new.self c.tell_all.new.labels c.tell_all.new.journal c.new-events.result.items c.commit.new.events.items act act c.in_ok-told.told.items
    c.new-events.ensures.items (c.in_ok-commit.ensures.does hosts asked sound) refl
    (tells_by m.labels c.tell_all.new.labels m.journal c.tell_all.new.journal c.commit.new.events.items _ c.in_ok-told.told.items c.deref.ensures.value t.entries t.labels t.noted t.names))

pub returns-clause-leaves : goal.returns-clause-leaves
returns-clause-leaves g c = λ hosts asked count sound.
    let m = c.args.self.now in
    let e = c.in_ok-commit.ensures in
    let env = environment hosts (map (λ r. r.slack) c.args.rules.now) in
    leaves_batched asked asked count m c.commit.new.self c.tell_all.new.labels c.tell_all.new.journal c.take.new.self c.requires.ready c.in_ok-told.ensures.names
    (stays_quiet asked m.world c.commit.new.self (commit env c.in-Some.batch.changed) (e.does hosts asked sound).whole
    (all_keep_kinds.committing env c.in-Some.batch.changed) (ap (λ (s : Seen). s.given) e.graph) e.made e.tables)
    e.tables (roomy_none c.commit.new.self.graph.state.signals c.take.new.self c.take.ensures.after) (λ a. e.agrees asked a)
    (λ r. subst (λ (s : Seen). AreRuled count s.state.signals) (sym e.graph) r)
    (let w = ap (λ (s : Seen). s.state.worn) e.graph in let t = ap (λ x. x.effects_made) e.tables in omega (arith, w, t))
