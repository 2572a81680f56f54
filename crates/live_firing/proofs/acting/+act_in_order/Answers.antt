use Rattle.std.proofs.Common.{◌+◌, List, [], length, map, refl, sym, ap, arith}
use Rattle.std.proofs.lemmas.List.{nil_from_length}
use Rattle.effect_world.specs.Signals.{any_hosts}
use Rattle.live_model.specs.Machine.{acting, acting_once, reached}
use Rattle.sig_effect.specs.Stores.{environment}
use Rattle.sig_untrack.specs.Links.{act_of}
use Rattle.sig_untrack.specs.declared.body.Act.{Act as AnAct}
use Rattle.live_firing.specs.Stages.{at_stage, stage}
use Rattle.live_firing.proofs.Plays.{both_told, parts_for, plays_as, plays_then, still_plays}
use Rattle.live_firing.proofs.acting.+act_in_order.Goals as goal

pub returns-in_default : goal.returns-in_default
returns-in_default g t c = λ asked p agrees cells.
    let slacks = map (λ r. r.slack) c.args.rules.now in
    let s = stage c.args.world.now asked c.args.labels.now c.args.journal.now c.args.events.now.items c.args.told.now.items in
    plays_as slacks s s any_hosts any_hosts 0 (length c.args.acts.now) (λ env m. reached m []) (λ env m. acting env m (map (act_of p) c.args.acts.now))
    (λ hosts all sound m. ap (λ (as' : List AnAct). acting (environment hosts slacks) (at_stage m s) (map (act_of p) as')) (sym (nil_from_length _ c.in_default.ensures.cases)))
    (omega arith) (still_plays slacks s any_hosts 0 agrees)

pub act_once-requires-clause-worn : goal.act_once-requires-clause-worn
act_once-requires-clause-worn g t c =
    let w = c.requires.worn in
    let few = c.args.events.now.small in
    let count = c.args.events.now.ok.0 in
    omega (arith, w, few, count)

pub act_in_order-requires : goal.act_in_order-requires
act_in_order-requires g t c =
    let a = c.requires.together in
    let one = c.in_ok-act_once.ensures a.asked (parts_for c.args.targets.now) a.agrees (λ n. refl) in
    let cut = ap length c.in-Some.ensures.cases.0 in
    let heavy = one.weight in
    let w = c.requires.worn in (
      omega (arith, cut),
      (record { asked = a.asked; agrees = one.agrees }, (one.rules _ c.requires.ruled, omega (arith, heavy, w, cut))),
    )

pub returns : goal.returns
returns g t c = λ asked p agrees cells.
    let slacks = map (λ r. r.slack) c.args.rules.now in
    let s = stage c.args.world.now asked c.args.labels.now c.args.journal.now c.args.events.now.items c.args.told.now.items in
    let mid = stage c.act_once.new.world asked c.act_once.new.labels c.act_once.new.journal c.act_once.new.events.items c.act_once.new.told.items in
    let new = stage c.act_in_order.new.world asked c.act_in_order.new.labels c.act_in_order.new.journal c.act_in_order.new.events.items c.act_in_order.new.told.items in
    let first = c.in-Some.act.now in
    let rest = c.in-Some.acts.now in
    let cut = ap length c.in-Some.ensures.cases.0 in
    let one = c.in_ok-act_once.ensures asked p agrees cells in
    let more = c.in_ok-act_in_order.ensures asked p one.agrees cells in
    plays_as slacks s new any_hosts any_hosts (1 + length rest) (length c.args.acts.now)
    (both_told (λ env m. acting_once env m (act_of p first)) (λ env m. acting env m (map (act_of p) rest))) (λ env m. acting env m (map (act_of p) c.args.acts.now))
    (λ hosts all sound m. ap (λ (as' : List AnAct). acting (environment hosts slacks) (at_stage m s) (map (act_of p) as')) (sym c.in-Some.ensures.cases.0))
    (omega (arith, cut))
    (plays_then slacks s mid new any_hosts any_hosts any_hosts 1 (length rest) (λ env m. acting_once env m (act_of p first)) (λ env m. acting env m (map (act_of p) rest)) one more)
