use Rattle.std.proofs.Common.{◌+◌, ◌*◌, List, [], length, map, sym, ap, arith}
use Rattle.std.proofs.lemmas.List.{nil_from_length}
use Rattle.event_model.specs.declared.fired.Fired.{Fired}
use Rattle.live_model.specs.Machine.{firing, reached, running}
use Rattle.sig_effect.specs.Stores.{environment}
use Rattle.live_firing.specs.Stages.{at_stage, handling_in, handlings_in, stage}
use Rattle.live_firing.proofs.Plays.{both_told, plays_as, plays_then, still_plays}
use Rattle.live_firing.proofs.running.+run_in_order.Goals as goal

pub returns-in_default-clause-plays : goal.returns-in_default-clause-plays
returns-in_default-clause-plays g t c =
    let slacks = map (λ r. r.slack) c.args.rules.now in
    let s = stage c.args.world.now _ c.args.labels.now c.args.journal.now c.args.events.now.items c.args.told.now.items in
    plays_as slacks s s _ _ 0 (64 * length c.args.fired.now) (λ env m. reached m []) (λ env m. firing env m c.args.page.now (handlings_in c.args.scripts.now c.args.fired.now))
    (λ hosts all sound m.
    ap (λ (xs : List Fired). firing (environment hosts slacks) (at_stage m s) c.args.page.now (handlings_in c.args.scripts.now xs)) (sym (nil_from_length _ c.in_default.ensures.cases)))
    (omega arith) (still_plays slacks s _ 0 c.requires.can.agrees)

pub run_one-requires-clause-can : goal.run_one-requires-clause-can
run_one-requires-clause-can g t c =
    let cut = ap length c.in-Some.ensures.cases.0 in
    let w = c.requires.can.weight in
    record { agrees = c.requires.can.agrees; weight = omega (arith, w, cut); room = c.requires.can.room }

pub run_in_order-requires : goal.run_in_order-requires
run_in_order-requires g t c =
    let cut = ap length c.in-Some.ensures.cases.0 in
    let one = c.in_ok-run_one.ensures.plays in
    let heavy = one.weight in
    let asks = one.most in
    let w = c.requires.can.weight in
    let r = c.requires.can.room in (
      omega (arith, cut),
      (
        record { agrees = one.agrees; weight = omega (arith, heavy, w, cut); room = omega (arith, asks, r) },
        (one.rules _ c.requires.ruled, (c.in_ok-run_one.ensures.counted, c.requires.fits)),
      ),
    )

pub returns-clause-plays : goal.returns-clause-plays
returns-clause-plays g t c =
    let slacks = map (λ r. r.slack) c.args.rules.now in
    let page = c.args.page.now in
    let ss = c.args.scripts.now in
    let first = c.in-Some.first.now in
    let rest = c.in-Some.fired.now in
    let cut = ap length c.in-Some.ensures.cases.0 in
    let s = stage c.args.world.now _ c.args.labels.now c.args.journal.now c.args.events.now.items c.args.told.now.items in
    let mid = stage c.run_one.new.world _ c.run_one.new.labels c.run_one.new.journal c.run_one.new.events.items c.run_one.new.told.items in
    let new = stage c.run_in_order.new.world _ c.run_in_order.new.labels c.run_in_order.new.journal c.run_in_order.new.events.items c.run_in_order.new.told.items in
    plays_as slacks s new _ _ (64 + 64 * length rest) (64 * length c.args.fired.now)
    (both_told (λ env m. running env m page (handling_in ss first)) (λ env m. firing env m page (handlings_in ss rest)))
    (λ env m. firing env m page (handlings_in ss c.args.fired.now))
    (λ hosts all sound m. ap (λ (xs : List Fired). firing (environment hosts slacks) (at_stage m s) page (handlings_in ss xs)) (sym c.in-Some.ensures.cases.0))
    (omega (arith, cut))
    (plays_then slacks s mid new _ _ _ 64 (64 * length rest) (λ env m. running env m page (handling_in ss first)) (λ env m. firing env m page (handlings_in ss rest))
    c.in_ok-run_one.ensures.plays c.in_ok-run_in_order.ensures.plays)
