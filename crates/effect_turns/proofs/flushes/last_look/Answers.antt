use Rattle.std.proofs.Common.{◌∙◌, ap, map}
use Rattle.effect_model.specs.Worlds.{effect_numbers}
use Rattle.sig_effect.specs.Stores.{environment}
use Rattle.effect_tables.specs.Placed.{effect_of}
use Rattle.effect_turns.proofs.Loops.{look_done, look_says}
use Rattle.effect_turns.proofs.flushes.last_look.Goals as goal

pub returns-clause-due : goal.returns-clause-due
returns-clause-due g c = λ hosts slacks all sound.
    look_says (environment hosts slacks) _ _ _ (c.deref-2.ensures.value ∙ c.in_ok-ids.ensures ∙ ap (λ xs. effect_numbers (map effect_of xs)) c.deref.ensures.value)
    (c.in_ok-due.ensures.due hosts slacks all sound)

pub returns-clause-done : goal.returns-clause-done
returns-clause-done g c = λ slacks.
    look_done slacks _ _ _ _ _ (c.deref-2.ensures.value ∙ c.in_ok-ids.ensures ∙ ap (λ xs. effect_numbers (map effect_of xs)) c.deref.ensures.value)
    (c.in_ok-due.ensures.done slacks)
