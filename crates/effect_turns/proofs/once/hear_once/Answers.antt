use Rattle.std.proofs.Common.{[], sym, ap, ◌∙◌}
use Rattle.effect_model.specs.Bodies.{Body, body_evaluation}
use Rattle.effect_teardown.specs.Sites.{parts_of}
use Rattle.effect_teardown.proofs.SharedSites.{part_fits, part_seen}
use Rattle.effect_turns.proofs.Alone.{heard_runs, part_first}
use Rattle.effect_turns.proofs.once.hear_once.Goals as goal

pub evaluate-requires-clause-fits : goal.evaluate-requires-clause-fits
evaluate-requires-clause-fits g c = part_fits _ _ _ _ (part_first c.args.script.now) c.requires.fits

pub returns-clause-result : goal.returns-clause-result
returns-clause-result g c = λ hosts all sound.
    let s = c.args.script.now in
    (c.in_ok-run.ensures.run hosts (parts_of 0 s []) all sound).result
    ∙ ap (λ (b : Body). (body_evaluation hosts c.args.world.now.graph.state.signals b).result) (sym (part_seen _ _ _ _ (part_first s) 0))

pub returns-clause-done : goal.returns-clause-done
returns-clause-done g c = λ slacks. heard_runs slacks c.args.script.now _ _ _ _ (c.in_ok-run.ensures.done slacks (parts_of 0 c.args.script.now []))
