use Rattle.std.proofs.Common.{◌++◌, ◌∷◌, [], Err, refl, sym, ap, subst, ◌∙◌}
use Rattle.std.specs.Prelude.{IsErrOf}
use Rattle.effect_model.specs.Acts.{dispose_thing}
use Rattle.effect_model.specs.Worlds as plain
use Rattle.effect_tables.specs.Bodies.{thing_of}
use Rattle.sig_effect.specs.declared.errors.EffectFault.TheVariants as fault
use Rattle.sig_effect.specs.declared.events.Event.TheVariants as event
use Rattle.effect_world.specs.Wholes.{whole_of}
use Rattle.effect_acts.proofs.Acts.{acted_told, refused_gone}
use Rattle.effect_acts.proofs.disposal.dispose.Goals as goal

pub returns-in_ok-push-in-Err-Gone-clause-done : goal.returns-in_ok-push-in-Err-Gone-clause-done
returns-in_ok-push-in-Err-Gone-clause-done g c =
    let is = c.in-Err-Gone.is ∙ ap Err c.in-Err-Gone.field-0-is in
    let gone : IsErrOf c.dispose.result fault.Gone = subst (λ r. IsErrOf r fault.Gone) (sym is) refl in
    let off = c.dispose.ensures.refuses.1 gone in
    rw (off.1.0, off.1.1)
    (acted_told _ c.args.world.now _ _ _ (event.RefusedGone c.args.thing) (plain.refused (plain.thing_gone (thing_of c.args.thing))) _ _ (λ env. dispose_thing env (thing_of c.args.thing))
    (c.in_ok-push-in-Err-Gone.ensures.items ∙ (λ i. (off.1.2 i).items ++ c.refusal-refused.ensures i ∷ []))
    (λ env. refused_gone env (thing_of c.args.thing) (whole_of _ c.args.world.now) off.0) refl c.requires.agrees)
