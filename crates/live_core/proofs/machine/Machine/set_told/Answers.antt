use Rattle.std.proofs.Common.{map, refl, ap, arith}
use Rattle.effect_model.specs.Acts.{set_cell}
use Rattle.effect_laws.proofs.SharedCounts.{all_keep_counts}
use Rattle.sig_effect.proofs.SharedKinds.{all_keep_kinds}
use Rattle.sig_effect.specs.Stores.{environment}
use Rattle.live_core.proofs.Batched.{alone_steps, roomy_none}
use Rattle.live_core.proofs.Commands.{acts_steps, leaves_acted, leaves_beside, stays_by, steps_beside, tells_by, with_world}
use Rattle.live_core.proofs.machine.Machine.set_told.Goals as goal

pub change_cell-requires-clause-can : goal.change_cell-requires-clause-can
change_cell-requires-clause-can g c = record { kind = c.requires.kind; ruled = c.requires.ruled.each c.args.cell }

pub returns-clause-steps : goal.returns-clause-steps
returns-clause-steps g c = λ hosts asked sound.
    let m = c.args.self.now in
    let env = environment hosts (map (λ r. r.slack) c.args.rules.now) in
    let act = set_cell env c.args.cell c.args.value in
    let t = c.in_ok-told.ensures in
    steps_beside hosts asked (with_world m c.change_cell.new.self c.tell_all.new.labels c.tell_all.new.journal) _ c.in_ok-told.told.items _
    (alone_steps hosts env asked m _ c.in_ok-told.told.items c.args.cell c.args.value c.requires.alone
    (acts_steps hosts asked asked m c.change_cell.new.self c.tell_all.new.labels c.tell_all.new.journal c.clear.new.self.items c.change_cell.new.events.items
    act act c.in_ok-told.told.items c.clear.ensures.items (c.in_ok-_done.ensures.changed.does hosts asked c.requires.owned sound) refl
    (tells_by m.labels c.tell_all.new.labels m.journal c.tell_all.new.journal c.change_cell.new.events.items _ c.in_ok-told.told.items c.deref.ensures.value t.entries t.labels t.noted t.names)))
    refl

pub returns-clause-leaves : goal.returns-clause-leaves
returns-clause-leaves g c = λ hosts asked count sound.
    let m = c.args.self.now in
    let tables = c.in_ok-_done.ensures.tables in
    let e = c.in_ok-_done.ensures.changed in
    let env = environment hosts (map (λ r. r.slack) c.args.rules.now) in
    leaves_beside asked asked count m (with_world m c.change_cell.new.self c.tell_all.new.labels c.tell_all.new.journal) _
    (leaves_acted asked asked count m c.change_cell.new.self c.tell_all.new.labels c.tell_all.new.journal c.requires.ready c.in_ok-told.ensures.names
    (stays_by asked asked m.world c.change_cell.new.self (set_cell env c.args.cell c.args.value) (e.does hosts asked c.requires.owned sound).whole
    (all_keep_counts.setting env c.args.cell c.args.value) (all_keep_kinds.setting env c.args.cell c.args.value))
    tables (roomy_none c.change_cell.new.self.graph.state.signals m.batch c.requires.alone)
    (λ a. e.agrees asked a) (λ r. e.rules count r) (let w = e.worn in let t = ap (λ x. x.effects_made) tables in omega (arith, w, t)))
    refl
