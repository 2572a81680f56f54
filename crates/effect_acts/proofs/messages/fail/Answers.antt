use Rattle.std.proofs.Common.{refl}
use Rattle.effect_model.specs.Worlds.{failed, tell}
use Rattle.sig_effect.specs.declared.events.Event.TheVariants as event
use Rattle.effect_world.specs.Signals.{any_hosts}
use Rattle.effect_acts.proofs.Acts.{acted_told}
use Rattle.effect_acts.proofs.messages.fail.Goals as goal

pub returns : goal.returns
returns c = λ asked slacks a.
    acted_told slacks c.args.world.now asked _ _ (event.Fail c.args.id c.args.fault) (failed c.args.id c.args.fault) any_hosts 0 (λ env. tell (failed c.args.id c.args.fault)) c.in_ok-push.ensures.items
    (λ env. refl) refl a
