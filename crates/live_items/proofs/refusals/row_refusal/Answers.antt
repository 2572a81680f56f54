use Rattle.live_items.proofs.refusals.row_refusal.Goals as goal

pub returns-in_ok-refusal-in-Edit : goal.returns-in_ok-refusal-in-Edit
returns-in_ok-refusal-in-Edit c = λ asked. rw c.in-Edit.is c.in_ok-refusal-in-Edit.ensures

pub returns-in-Fire : goal.returns-in-Fire
returns-in-Fire c = λ asked. rw c.in-Fire.is c.node_refusal.ensures

pub returns-in-On : goal.returns-in-On
returns-in-On c = λ asked. rw c.in-On.is c.line_refusal.ensures

pub returns-in-Record : goal.returns-in-Record
returns-in-Record c = λ asked. rw (c.in-Bare.is, c.in-Record.is) (c.late_refusal.ensures asked)

pub returns-in_ok-refusal-in-Why : goal.returns-in_ok-refusal-in-Why
returns-in_ok-refusal-in-Why c = λ asked. rw (c.in-Named.is, c.in-Why.is) (c.in_ok-refusal-in-Why.ensures asked)
