use Rattle.std.proofs.Common.{◌≡◌, ◌∙◌, true, false, Some, is_some, map, refl, sym, ap, arith}
use Rattle.effect_model.specs.Batches.{set_quietly}
use Rattle.effect_model.specs.Worlds as plain
use Rattle.sig_effect.proofs.SharedKinds.{all_keep_kinds}
use Rattle.sig_effect.specs.Stores.{environment}
use Rattle.effect_world.specs.Wholes.{whole_of}
use Rattle.live_core.proofs.Batched.{batched_steps, has_room, open_roomy, set_kept, stays_quiet}
use Rattle.live_core.proofs.Commands.{acts_steps, leaves_batched, tells_by}
use Rattle.live_core.proofs.machine.Machine.set_batched.Goals as goal

pub set_in-requires-clause-room : goal.set_in-requires-clause-room
set_in-requires-clause-room g c =
    let m = c.args.self.now in
    has_room m.world.graph.state.signals c.args.cell c.in-Some.batch
    (open_roomy m.world.graph.state.signals m.batch c.in-Some.batch c.in-Some.is c.requires.ready.batch) c.requires.there

pub set_in-requires-clause-can : goal.set_in-requires-clause-can
set_in-requires-clause-can g c = record { kind = c.requires.kind; ruled = c.requires.ruled.each c.args.cell }

pub unreachable-requires : goal.unreachable-requires
unreachable-requires g c =
    let clash : true ≡ false = sym c.requires.batched ∙ ap is_some c.in_default.is in
    absurd cc

pub returns-clause-steps : goal.returns-clause-steps
returns-clause-steps g c = λ hosts asked sound.
    let m = c.args.self.now in
    let e = c.in_ok-_done.ensures in
    let env = environment hosts (map (λ r. r.slack) c.args.rules.now) in
    let act = set_quietly env c.args.cell c.args.value in
    let t = c.in_ok-told.ensures in
    batched_steps hosts env asked m c.set_in.new.self c.tell_all.new.labels c.tell_all.new.journal c.in_ok-told.told.items c.args.cell c.args.value c.in-Some.batch c.set_in.new.batch
    c.in-Some.is e.collects.changed
    (acts_steps hosts asked asked m c.set_in.new.self c.tell_all.new.labels c.tell_all.new.journal c.new-events.result.items c.set_in.new.events.items
    act act c.in_ok-told.told.items c.new-events.ensures.items (e.changed.does hosts asked c.requires.owned sound) refl
    (tells_by m.labels c.tell_all.new.labels m.journal c.tell_all.new.journal c.set_in.new.events.items _ c.in_ok-told.told.items c.deref.ensures.value t.entries t.labels t.noted t.names))

pub returns-clause-leaves : goal.returns-clause-leaves
returns-clause-leaves g c = λ hosts asked count sound.
    let m = c.args.self.now in
    let e = c.in_ok-_done.ensures in
    let env = environment hosts (map (λ r. r.slack) c.args.rules.now) in
    let whole = (e.changed.does hosts asked c.requires.owned sound).whole in
    leaves_batched asked asked count m c.set_in.new.self c.tell_all.new.labels c.tell_all.new.journal (Some c.set_in.new.batch) c.requires.ready c.in_ok-told.ensures.names
    (stays_quiet asked m.world c.set_in.new.self (set_quietly env c.args.cell c.args.value) whole
    (all_keep_kinds.setting_quietly env c.args.cell c.args.value) e.changed.given e.changed.made e.tables)
    e.tables
    (set_kept env (whole_of asked m.world) c.set_in.new.self.graph.state.signals c.args.cell c.args.value c.in-Some.batch c.set_in.new.batch
    (ap (λ (x : plain.World). x.signals) whole) c.requires.there
    (open_roomy m.world.graph.state.signals m.batch c.in-Some.batch c.in-Some.is c.requires.ready.batch) e.collects.changed e.collects.room)
    (λ a. e.changed.agrees asked a) (λ r. e.changed.rules count r) (let w = e.changed.worn in let t = ap (λ x. x.effects_made) e.tables in omega (arith, w, t))
