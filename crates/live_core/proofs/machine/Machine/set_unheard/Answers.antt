use Rattle.std.proofs.Common.{◌≡◌, true, false, [], IsErr, map, refl, sym, ap, subst, ◌∙◌, arith}
use Rattle.std.proofs.lemmas.List.{nil_from_length}
use Rattle.effect_model.specs.Acts.{set_cell}
use Rattle.effect_laws.proofs.SharedCounts.{all_keep_counts}
use Rattle.sig_effect.proofs.SharedKinds.{all_keep_kinds}
use Rattle.sig_effect.specs.Stores.{environment}
use Rattle.live_core.proofs.Batched.{alone_steps, roomy_none}
use Rattle.live_core.proofs.Commands.{acts_steps, leaves_acted, stays_by, unheard}
use Rattle.live_core.proofs.machine.Machine.set_unheard.Goals as goal

pub change_unwatched-requires-clause-can : goal.change_unwatched-requires-clause-can
change_unwatched-requires-clause-can g c = record { kind = c.requires.kind; ruled = c.requires.ruled.each c.args.cell }

pub change_unwatched-requires-clause-none : goal.change_unwatched-requires-clause-none
change_unwatched-requires-clause-none g c = nil_from_length c.args.self.now.world.watchers.watchers c.requires.watchers

pub unreachable-requires : goal.unreachable-requires
unreachable-requires g c =
    let gone = c.change_unwatched.ensures.gone.0 (subst IsErr (sym c.in-Err.is) refl) in
    let clash : true ≡ false = sym c.requires.there ∙ gone in
    absurd cc

pub returns-clause-steps : goal.returns-clause-steps
returns-clause-steps g c = λ hosts asked sound.
    let m = c.args.self.now in
    let w = c.change_unwatched.new.self in
    let env = environment hosts (map (λ r. r.slack) c.args.rules.now) in
    let act = set_cell env c.args.cell c.args.value in
    alone_steps hosts env asked m _ [] c.args.cell c.args.value c.requires.alone
    (acts_steps hosts asked asked m w m.labels m.journal [] _ act act [] refl (c.in-Ok.ensures.changed.does hosts asked c.requires.owned sound) refl
    (unheard m.labels m.journal _ c.args.cell c.requires.journal))

pub returns-clause-leaves : goal.returns-clause-leaves
returns-clause-leaves g c = λ hosts asked count sound.
    let m = c.args.self.now in
    let w = c.change_unwatched.new.self in
    let tables = c.change_unwatched.ensures.tables in
    let e = c.in-Ok.ensures.changed in
    let env = environment hosts (map (λ r. r.slack) c.args.rules.now) in
    leaves_acted asked asked count m w m.labels m.journal c.requires.ready (record { signals = refl; owners = refl; pages = refl; watchers = refl })
    (stays_by asked asked m.world w (set_cell env c.args.cell c.args.value) (e.does hosts asked c.requires.owned sound).whole
    (all_keep_counts.setting env c.args.cell c.args.value) (all_keep_kinds.setting env c.args.cell c.args.value))
    tables (roomy_none w.graph.state.signals m.batch c.requires.alone)
    (λ a. e.agrees asked a) (λ r. e.rules count r) (let v = e.worn in let t = ap (λ x. x.effects_made) tables in omega (arith, v, t))
