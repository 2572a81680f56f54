use Rattle.std.proofs.Common.{refl, sym, ap}
use Rattle.effect_model.specs.Worlds.{logged, tell}
use Rattle.sig_effect.specs.declared.events.Event.TheVariants as event
use Rattle.effect_world.specs.Signals.{any_hosts}
use Rattle.effect_acts.proofs.Acts.{acted_told}
use Rattle.effect_acts.proofs.messages.log.Goals as goal

pub returns : goal.returns
returns c = λ asked slacks a.
    acted_told slacks c.args.world.now asked _ _ (event.Log c.in_ok-copied.copied) (logged c.args.value.now) any_hosts 0 (λ env. tell (logged c.args.value.now))
    c.in_ok-push.ensures.items (λ env. refl) (ap logged (sym c.in_ok-copied.ensures)) a
