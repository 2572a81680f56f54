use Rattle.effect_turns.proofs.Joined.{nothing_linked, nothing_there}
use Rattle.effect_turns.proofs.run.run_on.Goals as goal

pub returns-in_default-clause-done : goal.returns-in_default-clause-done
returns-in_default-clause-done g c =
    nothing_there _ _ _ _ c.args.id _ _ _ _ _ c.deref.ensures c.deref-2.ensures.value c.in_default.ensures.none (c.in_ok-run_nothing.ensures.done _ _ c.requires.can.agrees)

pub returns-in_default-links_at-clause-done : goal.returns-in_default-links_at-clause-done
returns-in_default-links_at-clause-done g c =
    nothing_linked _ _ _ _ c.args.id _ _ _ _ _ c.deref-3.ensures c.deref-4.ensures.value c.in_default-links_at.ensures.none
    (c.in_ok-run_nothing-2.ensures.done _ _ c.requires.can.agrees)
