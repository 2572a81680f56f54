use Rattle.std.proofs.Common.{[], ◌∷◌, Some, map, sym, ap, ◌∙◌, arith}
use Rattle.effect_teardown.proofs.SharedSites.{get_none, get_some}
use Rattle.live_entries.specs.declared.entry.Entry.TheVariants as entry
use Rattle.live_model.specs.Machine.{reached, running}
use Rattle.sig_effect.specs.Stores.{environment}
use Rattle.live_firing.specs.Stages.{at_stage, handling_in, script_body, stage}
use Rattle.live_firing.proofs.Plays.{fits_at, plays_as, rests_at, running_none, told_plays}
use Rattle.live_firing.proofs.running.run_one.Goals as goal

pub returns-in_default-clause-plays : goal.returns-in_default-clause-plays
returns-in_default-clause-plays g c =
    let slacks = map (λ r. r.slack) c.args.rules.now in
    let page = c.args.page.now in
    let node = c.args.fired.node in
    let s = stage c.args.world.now _ c.args.labels.now c.args.journal.now c.args.events.now.items c.args.told.now.items in
    let more = entry.Fired page node ∷ [] in
    let none = get_none c.args.scripts.now c.args.fired.handler c.in_default.ensures.lookup.0 in
    plays_as slacks s (record s { told = c.tell_fired.new.told.items }) _ _ 64 64 (λ env m. reached m more) (λ env m. running env m page (handling_in c.args.scripts.now c.args.fired))
    (λ hosts all sound m.
    let env = environment hosts slacks in
    running_none env (at_stage m s) page node (rests_at _ c.args.world.now c.requires.can.agrees)
    ∙ ap (λ o. running env (at_stage m s) page (record { node = node; body = script_body o })) (sym none))
    (omega arith) (told_plays slacks s c.tell_fired.new.told.items more _ 64 c.in_ok-tell_fired.ensures c.requires.can.agrees)

pub run_at-requires-clause-fits : goal.run_at-requires-clause-fits
run_at-requires-clause-fits g c =
    let l = c.in-Some.ensures.lookup in
    fits_at c.args.scripts.now c.args.fired.handler c.in-Some.script.now (get_some c.args.scripts.now c.args.fired.handler c.in-Some.script.now l.0 l.1) c.requires.fits

pub returns-clause-plays : goal.returns-clause-plays
returns-clause-plays g c =
    let slacks = map (λ r. r.slack) c.args.rules.now in
    let page = c.args.page.now in
    let node = c.args.fired.node in
    let l = c.in-Some.ensures.lookup in
    let there = get_some c.args.scripts.now c.args.fired.handler c.in-Some.script.now l.0 l.1 in
    let s = stage c.args.world.now _ c.args.labels.now c.args.journal.now c.args.events.now.items c.args.told.now.items in
    plays_as slacks s _ _ _ 64 64 (λ env m. running env m page (record { node = node; body = script_body (Some c.in-Some.script.now) }))
    (λ env m. running env m page (handling_in c.args.scripts.now c.args.fired))
    (λ hosts all sound m. ap (λ o. running (environment hosts slacks) (at_stage m s) page (record { node = node; body = script_body o })) (sym there))
    (omega arith) c.in_ok-run_at.ensures.plays
