use Rattle.std.proofs.Common.{List, [], length, sym, ap, subst, ◌∙◌, arith}
use Rattle.signal_model.specs.Sound.{names_of}
use Rattle.effect_model.specs.Bodies.{body_evaluation}
use Rattle.effect_tables.specs.Bodies.{body_of}
use Rattle.sig_effect.specs.Events.{Tells}
use Rattle.sig_effect.specs.declared.events.Event.{Event}
use Rattle.live_firing.proofs.Plays.{settled_plays}
use Rattle.live_firing.proofs.running.hear.Goals as goal

pub hear_once-requires-clause-can : goal.hear_once-requires-clause-can
hear_once-requires-clause-can g c =
    let w = c.requires.can.weight in
    let r = c.requires.can.room in
    record { agrees = c.requires.can.agrees; weight = omega (arith, w); room = omega (arith, r) }

pub returns-clause-plays : goal.returns-clause-plays
returns-clause-plays g c = λ slacks.
    let before = c.args.events.now.items in
    let count = sym (c.len-count.ensures ∙ c.args.events.now.ok.0) in
    let e = c.in_ok-tell_behind.ensures in
    settled_plays slacks _ _ _ _ (λ env w. names_of (body_evaluation env.hosts w.signals (body_of 0 c.args.script.now [])).reads)
    (record {
      told = λ ts h. e.told before ts count (subst (λ (es : List Event). Tells before es ts) (sym c.as_slice.ensures.value) h);
      labels = λ ts h. e.labels before ts count (subst (λ (es : List Event). Tells before es ts) (sym c.as_slice.ensures.value) h);
      noted = λ ts h. e.noted before ts count (subst (λ (es : List Event). Tells before es ts) (sym c.as_slice.ensures.value) h);
      names = e.names;
    }) c.in_ok-end.ensures.tables (c.in_ok-end.ensures.done slacks) c.in_ok-end.ensures.spent

pub tell_behind-requires : goal.tell_behind-requires
tell_behind-requires g c =
    let told = c.in_ok-end.ensures.told in
    let count = c.len-count.ensures ∙ c.args.events.now.ok.0 in
    let same = ap length c.as_slice.ensures.value in
    omega (arith, told, count, same)
