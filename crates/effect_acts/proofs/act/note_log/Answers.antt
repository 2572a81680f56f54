use Rattle.std.proofs.Common.{arith}
use Rattle.effect_model.specs.Bodies.{to_note}
use Rattle.effect_model.specs.Owners.{logs}
use Rattle.effect_model.specs.Runs.{do_act}
use Rattle.effect_acts.proofs.Acts.{acted_lent}
use Rattle.effect_acts.proofs.act.note_log.Goals as goal

pub returns-in-Ok : goal.returns-in-Ok
returns-in-Ok c = λ asked slacks a.
    acted_lent _ _ _ _ _ 0 0 (λ env. do_act env c.args.id 0 (to_note (logs c.in_ok-copied.copied))) (λ env. do_act env c.args.id 0 (to_note (logs c.args.value.now)))
    (λ env. (λ i. do_act env c.args.id 0 (to_note (logs (c.in_ok-copied.ensures i))))) (omega arith) (c.in-Ok.ensures.done asked slacks a)
