use Rattle.live_run.proofs.script_run.ScriptRun.new.Goals as goal

pub returns-clause-answers : goal.returns-clause-answers
returns-clause-answers g c = rw c.in_ok-run.ensures.ok c.in_ok-live.ensures.answers

pub returns-clause-machine : goal.returns-clause-machine
returns-clause-machine g c = rw c.in_ok-run.ensures.ok c.in_ok-live.ensures.machine

pub returns-clause-slacks : goal.returns-clause-slacks
returns-clause-slacks g c = rw c.in_ok-run.ensures.ok c.in_ok-live.ensures.slacks

pub returns-clause-sound : goal.returns-clause-sound
returns-clause-sound g c = λ hosts. rw c.in_ok-run.ensures.ok (c.in_ok-live.ensures.sound hosts)

pub returns-clause-kept : goal.returns-clause-kept
returns-clause-kept g c = rw c.in_ok-run.ensures.ok c.in_ok-live.ensures.kept

pub returns-clause-counted : goal.returns-clause-counted
returns-clause-counted g c = rw c.in_ok-run.ensures.ok c.in_ok-live.ensures.counted

pub returns-clause-prints : goal.returns-clause-prints
returns-clause-prints g c = λ is es. rw c.in_ok-run.ensures.ok (c.in_ok-report.ensures.prints is es)
