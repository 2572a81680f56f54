use Rattle.std.specs.Rc.{rc_value}
use Rattle.effect_tables.specs.Bodies.{body_of}
use Rattle.effect_turns.proofs.Joined.{run_whole}
use Rattle.effect_turns.proofs.run.run_at.Goals as goal

pub returns-clause-done : goal.returns-clause-done
returns-clause-done g c = run_whole _ _ _ _ _ _ _ c.args.id (body_of c.args.site.now.origin (rc_value c.args.site.now.script) c.args.site.now.path.items) c.requires.can.agrees c.in_ok-take_back.ensures.done c.in_ok-run_on.ensures.done
