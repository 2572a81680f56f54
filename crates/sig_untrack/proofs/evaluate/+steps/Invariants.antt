use Rattle.std.proofs.Common.{◌≡◌, drop}
use Rattle.effect_model.specs.Bodies.{body_step, followed_by}
use Rattle.sig_untrack.specs.Links.{Parts, acts_of, linked}
use Rattle.sig_untrack.specs.Stated.{Stated, stated}
use Rattle.sig_untrack.proofs.evaluate.+steps.Given as goal

abbrev pub invariant-statements_step-loop-statement : goal.invariant-statements_step-loop-statement
invariant-statements_step-loop-statement l =
    (p : Parts) (rest : Stated) → followed_by (acts_of p l.acts.items) (body_step (linked p (stated (drop l.statement-index l.statements) rest)) l.tracked l.untracked)
    ≡ followed_by (acts_of p l.fn.acts.items) (body_step (linked p (stated l.statements rest)) l.tracked l.untracked)
