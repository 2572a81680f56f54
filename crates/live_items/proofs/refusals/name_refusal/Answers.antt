use Rattle.live_items.proofs.refusals.name_refusal.Goals as goal

pub returns-in_ok-refusal-in-Set : goal.returns-in_ok-refusal-in-Set
returns-in_ok-refusal-in-Set c = λ asked. rw c.in-Set.is (c.in_ok-refusal-in-Set.ensures asked)

pub returns-in_ok-refusal-in-Edit : goal.returns-in_ok-refusal-in-Edit
returns-in_ok-refusal-in-Edit c = λ asked. rw c.in-Edit.is (c.in_ok-refusal-in-Edit.ensures asked)

pub returns-in_ok-refusal-in-Named : goal.returns-in_ok-refusal-in-Named
returns-in_ok-refusal-in-Named c = λ asked. rw c.in-Named.is (rw c.need_of.ensures at (c.in_ok-refusal-in-Named.ensures asked))
