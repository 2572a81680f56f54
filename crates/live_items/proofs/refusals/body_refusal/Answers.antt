use Rattle.live_items.proofs.refusals.body_refusal.Goals as goal

pub returns-in_ok-refusal-in-Effect : goal.returns-in_ok-refusal-in-Effect
returns-in_ok-refusal-in-Effect c = λ asked. rw c.in-Effect.is (c.in_ok-refusal-in-Effect.ensures asked)
