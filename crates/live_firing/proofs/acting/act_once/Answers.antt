use Rattle.std.proofs.Common.{List, length, map, refl, sym, ap, subst, ◌∙◌, arith}
use Rattle.effect_model.specs.Alone.{act_alone}
use Rattle.effect_world.specs.Signals.{any_hosts}
use Rattle.live_model.specs.Machine.{acted, acting_once}
use Rattle.sig_effect.specs.Events.{Tells}
use Rattle.sig_effect.specs.Stores.{environment}
use Rattle.sig_effect.specs.declared.events.Event.{Event}
use Rattle.sig_untrack.specs.Links.{act_of}
use Rattle.live_firing.specs.Stages.{at_stage, stage}
use Rattle.live_firing.proofs.Plays.{acted_once, acted_plays, kinds_alone, parts_for, plays_as, rests_at}
use Rattle.live_firing.proofs.acting.act_once.Goals as goal

pub returns : goal.returns
returns g c = λ asked p agrees cells.
    let slacks = map (λ r. r.slack) c.args.rules.now in
    let a = act_of p c.args.act.now in
    let before = c.args.events.now.items in
    let old = stage c.args.world.now asked c.args.labels.now c.args.journal.now before c.args.told.now.items in
    let new = stage c.do_alone.new.world asked c.tell_behind.new.labels c.tell_behind.new.journal c.do_alone.new.events.items c.tell_behind.new.told.items in
    let count = sym (c.len-count.ensures ∙ c.args.events.now.ok.0) in
    let e = c.in_ok-tell_behind.ensures in
    plays_as slacks old new any_hosts any_hosts 1 1 (λ env m. acted m (act_alone env a m.world)) (λ env m. acting_once env m a)
    (λ hosts all sound m. acted_once (environment hosts slacks) (at_stage m old) a (rests_at asked c.args.world.now agrees)) (omega arith)
    (acted_plays slacks old new (λ env. act_alone env a)
    (record {
      told = λ ts h. e.told before ts count (subst (λ (es : List Event). Tells before es ts) (sym c.as_slice.ensures.value) h);
      labels = λ ts h. e.labels before ts count (subst (λ (es : List Event). Tells before es ts) (sym c.as_slice.ensures.value) h);
      noted = λ ts h. e.noted before ts count (subst (λ (es : List Event). Tells before es ts) (sym c.as_slice.ensures.value) h);
      names = e.names;
    })
    (λ env. kinds_alone env a) (c.in_ok-do_alone.ensures.tables asked agrees) (c.in_ok-do_alone.ensures.done asked p agrees cells))

pub do_alone-requires-clause-worn : goal.do_alone-requires-clause-worn
do_alone-requires-clause-worn g c = let w = c.requires.worn in omega (arith, w)

pub tell_behind-requires : goal.tell_behind-requires
tell_behind-requires g c =
    let a = c.requires.together in
    let told = (c.in_ok-do_alone.ensures.done a.asked (parts_for c.args.targets.now) a.agrees (λ n. refl)).told in
    let count = c.len-count.ensures ∙ c.args.events.now.ok.0 in
    let same = ap length c.as_slice.ensures.value in
    omega (arith, told, count, same)
