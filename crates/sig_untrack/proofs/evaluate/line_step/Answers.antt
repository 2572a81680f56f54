use Rattle.std.proofs.Common.{◌∙◌, sym, ap, ℕ}
use Rattle.sig_formula.specs.declared.formula.Formula.{Formula}
use Rattle.effect_model.specs.declared.plain.Plain.{Plain}
use Rattle.effect_model.specs.Bodies.{and_then, followed_by, plain_step}
use Rattle.sig_untrack.specs.Stated.{held_line}
use Rattle.sig_untrack.specs.Links.{acts_of, linked_line}
use Rattle.sig_untrack.proofs.evaluate.line_step.Goals as goal

pub returns-in_ok-stop-in-Log : goal.returns-in_ok-stop-in-Log
returns-in_ok-stop-in-Log c = λ p rest.
    c.in_ok-stop-in-Log.ensures p rest
    ∙ ap (λ (a : Plain ℕ ℕ Formula). followed_by (acts_of p c.args.acts.now.items) (and_then (plain_step (linked_line p (held_line a)) c.args.tracked.now c.args.untracked.now) rest)) (sym c.in-Log.is)

pub returns-in_ok-stop-in-CleanupLog : goal.returns-in_ok-stop-in-CleanupLog
returns-in_ok-stop-in-CleanupLog c = λ p rest.
    c.in_ok-stop-in-CleanupLog.ensures p rest
    ∙ ap (λ (a : Plain ℕ ℕ Formula). followed_by (acts_of p c.args.acts.now.items) (and_then (plain_step (linked_line p (held_line a)) c.args.tracked.now c.args.untracked.now) rest)) (sym c.in-CleanupLog.is)
