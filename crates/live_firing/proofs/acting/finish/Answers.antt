use Rattle.std.proofs.Common.{◌≤◌, ◌∷◌, List, [], length, map, sym, ap, subst, ◌∙◌, arith}
use Rattle.effect_runs.specs.Evaluations.{result_of, IsShort}
use Rattle.effect_runs.specs.declared.run.BodyEnd.{BodyEnd}
use Rattle.effect_tables.specs.declared.effect.TheConstants.{MOST_STATEMENTS}
use Rattle.effect_world.specs.Signals.{any_hosts}
use Rattle.live_entries.specs.declared.entry.Entry.TheVariants as entry
use Rattle.live_model.specs.Machine.{acting, ending, reached}
use Rattle.sig_effect.specs.Stores.{environment}
use Rattle.sig_untrack.specs.Links.{act_of}
use Rattle.sig_untrack.specs.declared.body.Act.{Act as AnAct}
use Rattle.live_firing.specs.Stages.{at_stage, stage}
use Rattle.live_firing.proofs.Plays.{plays_as, told_plays}
use Rattle.live_firing.proofs.acting.finish.Goals as goal

pub returns-in_ok-tell_fault-in-Fail : goal.returns-in_ok-tell_fault-in-Fail
returns-in_ok-tell_fault-in-Fail g c = λ asked p agrees cells.
    let slacks = map (λ r. r.slack) c.args.rules.now in
    let s = stage c.args.world.now asked c.args.labels.now c.args.journal.now c.args.events.now.items c.args.told.now.items in
    let told = c.tell_fault.new.told.items in
    let more = entry.FailAt c.args.page.now c.args.node c.in-Fail.fault ∷ [] in
    plays_as slacks s (record s { told = told }) any_hosts any_hosts 64 64 (λ env m. reached m more) (λ env m. ending env m c.args.page.now c.args.node (result_of p c.args.end.now))
    (λ hosts all sound m. ap (λ (e : BodyEnd). ending (environment hosts slacks) (at_stage m s) c.args.page.now c.args.node (result_of p e)) (sym c.in-Fail.is))
    (omega arith) (told_plays slacks s told more any_hosts 64 c.in_ok-tell_fault-in-Fail.ensures agrees)

pub act_in_order-requires-clause-worn : goal.act_in_order-requires-clause-worn
act_in_order-requires-clause-worn g c =
    let few : length c.in-Acts.acts.items ≤ 64 = subst (IsShort MOST_STATEMENTS) c.in-Acts.is c.requires.few in
    let same = ap length c.deref.ensures.value in
    let w = c.requires.worn in
    omega (arith, few, same, w)

pub returns-in_ok-act_in_order-in-Acts : goal.returns-in_ok-act_in_order-in-Acts
returns-in_ok-act_in_order-in-Acts g c = λ asked p agrees cells.
    let slacks = map (λ r. r.slack) c.args.rules.now in
    let s = stage c.args.world.now asked c.args.labels.now c.args.journal.now c.args.events.now.items c.args.told.now.items in
    let few : length c.in-Acts.acts.items ≤ 64 = subst (IsShort MOST_STATEMENTS) c.in-Acts.is c.requires.few in
    let same = ap length c.deref.ensures.value in
    let acts = c.deref.result.now in
    let new = stage c.act_in_order.new.world asked c.act_in_order.new.labels c.act_in_order.new.journal c.act_in_order.new.events.items c.act_in_order.new.told.items in
    plays_as slacks s new any_hosts any_hosts (length acts) 64 (λ env m. acting env m (map (act_of p) acts))
    (λ env m. ending env m c.args.page.now c.args.node (result_of p c.args.end.now))
    (λ hosts all sound m.
    ap (λ (as' : List AnAct). acting (environment hosts slacks) (at_stage m s) (map (act_of p) as')) c.deref.ensures.value
    ∙ ap (λ (e : BodyEnd). ending (environment hosts slacks) (at_stage m s) c.args.page.now c.args.node (result_of p e)) (sym c.in-Acts.is))
    (omega (arith, few, same)) (c.in_ok-act_in_order-in-Acts.ensures asked p agrees cells)
