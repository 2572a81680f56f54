use Rattle.effect_turns.proofs.Joined.{rerun_none, rerun_some}
use Rattle.effect_turns.proofs.run.run_effect.Goals as goal

pub returns-in_default-clause-done : goal.returns-in_default-clause-done
returns-in_default-clause-done g c = rerun_none _ _ _ c.args.id c.requires.can.agrees c.in_default.ensures.none

pub returns-clause-done : goal.returns-clause-done
returns-clause-done g c =
    rerun_some _ _ _ _ _ c.args.id _ _ _ c.in-Some.effect.now c.in-Some.ensures.some c.in_ok-site.ensures.origin c.in_ok-site.ensures.script
    c.in_ok-site.ensures.path c.in_ok-run_at.ensures.done
