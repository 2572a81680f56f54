use Rattle.std.proofs.Common.{◌∙◌, sym, ap, Ok}
use Rattle.sig_untrack.proofs.Acts.{guarded_then, stopped_at}
use Rattle.sig_untrack.proofs.Statements.{answers, put_plain, put_when, put_effect, put_rewire}
use Rattle.effect_model.specs.Bodies.{body_step, followed_by}
use Rattle.sig_untrack.specs.Links.{acts_of, linked}
use Rattle.sig_untrack.specs.Stated.{no_more, stated}
use Rattle.sig_untrack.specs.Stops.{guarded_by}
use Rattle.sig_untrack.proofs.evaluate.+steps.Goals as goal

pub statement_step-returns-in_ok-stop-in-Plain : goal.statement_step-returns-in_ok-stop-in-Plain
statement_step-returns-in_ok-stop-in-Plain t c = λ p rest.
    answers c.args.tracked.now c.args.untracked.now p rest _ _ _ _ _ (c.in_ok-stop-in-Plain.ensures p (body_step (linked p rest) c.args.tracked.now c.args.untracked.now)) c.in-Plain.is
    (put_plain c.in-Plain.line rest)

pub statement_step-returns-in_ok-stop-in-Effect : goal.statement_step-returns-in_ok-stop-in-Effect
statement_step-returns-in_ok-stop-in-Effect t c = λ p rest.
    answers c.args.tracked.now c.args.untracked.now p rest _ _ _ _ _ (c.in_ok-stop-in-Effect.ensures p (body_step (linked p rest) c.args.tracked.now c.args.untracked.now)) c.in-Effect.is
    (put_effect c.in-Effect.place rest)

pub statement_step-returns-in_ok-stop-in-Rewire : goal.statement_step-returns-in_ok-stop-in-Rewire
statement_step-returns-in_ok-stop-in-Rewire t c = λ p rest.
    answers c.args.tracked.now c.args.untracked.now p rest _ _ _ _ _ (c.in_ok-stop-in-Rewire.ensures p (body_step (linked p rest) c.args.tracked.now c.args.untracked.now)) c.in-Rewire.is
    (put_rewire c.in-Rewire.place rest)

pub statement_step-returns-in_ok-stop-in-Ok-true : goal.statement_step-returns-in_ok-stop-in-Ok-true
statement_step-returns-in_ok-stop-in-Ok-true t c = λ p rest.
    let ts = c.args.tracked.now in
    let us = c.args.untracked.now in
    let inner = body_step (linked p (stated c.in-When.inner.items no_more)) ts us in
    let others = body_step (linked p rest) ts us in
    let is = c.in-Ok-true.is ∙ ap Ok c.in-Ok-true.field-0-test in
    let done = rw c.deref.ensures.value at (c.in_ok-stop-in-Ok-true.ensures p no_more) in
    let both = guarded_then c.in_ok-stop-in-Ok-true.stop (acts_of p c.args.acts.now.items) (acts_of p c.statements_step.new.acts.items) inner others done in
    answers ts us p rest _ _ _ _ _ (both ∙ ap (followed_by (acts_of p c.args.acts.now.items)) (sym (c.in_ok-truth_of-in-When.ensures inner others ∙ ap (λ r. guarded_by r inner others) is))) c.in-When.is
    (put_when c.in-When.guard c.in-When.inner rest)

pub statement_step-returns-in-Ok-false : goal.statement_step-returns-in-Ok-false
statement_step-returns-in-Ok-false t c = λ p rest.
    let ts = c.args.tracked.now in
    let us = c.args.untracked.now in
    let inner = body_step (linked p (stated c.in-When.inner.items no_more)) ts us in
    let others = body_step (linked p rest) ts us in
    let is = c.in-Ok-false.is ∙ ap Ok c.in-Ok-false.field-0-test in
    answers ts us p rest _ _ _ _ _ (ap (followed_by (acts_of p c.args.acts.now.items)) (sym (c.in_ok-truth_of-in-When.ensures inner others ∙ ap (λ r. guarded_by r inner others) is))) c.in-When.is
    (put_when c.in-When.guard c.in-When.inner rest)

pub statement_step-returns-in-Err : goal.statement_step-returns-in-Err
statement_step-returns-in-Err t c = λ p rest.
    let ts = c.args.tracked.now in
    let us = c.args.untracked.now in
    let inner = body_step (linked p (stated c.in-When.inner.items no_more)) ts us in
    let others = body_step (linked p rest) ts us in
    let is = c.in-Err.is in
    answers ts us p rest _ _ _ _ _ (stopped_at c.in-Err.stop (acts_of p c.args.acts.now.items) inner others _ (c.in_ok-truth_of-in-When.ensures inner others ∙ ap (λ r. guarded_by r inner others) is)) c.in-When.is
    (put_when c.in-When.guard c.in-When.inner rest)
