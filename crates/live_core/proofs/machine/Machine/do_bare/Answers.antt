use Rattle.std.proofs.Common.{length, map, ap}
use Rattle.live_cmd.specs.declared.command.Command.TheVariants as command
use Rattle.live_model.specs.Machine.{is_done_in_batch}
use Rattle.live_core.proofs.Batched.{alone_by}
use Rattle.live_core.proofs.Doing.{did_alone}
use Rattle.live_core.proofs.LeftOut.{did_whole}
use Rattle.live_core.proofs.machine.Machine.do_bare.Goals as goal

pub returns-in-Begin-clause-did : goal.returns-in-Begin-clause-did
returns-in-Begin-clause-did g c = rw c.in-Begin.is (did_alone c.begin.result (λ es. es.items) _ _ _ _ _ _ _ _ c.requires.can.counted
    (λ hosts sound. c.begin.ensures.steps hosts (map (λ r. r.slack) c.args.rules.now) _ sound)
    (λ hosts sound. c.begin.ensures.leaves _ (length c.args.rules.now)))

pub returns-in-Commit-clause-did : goal.returns-in-Commit-clause-did
returns-in-Commit-clause-did g c = rw c.in-Commit.is (did_alone c.commit.result (λ es. es.items) _ _ _ _ _ _ _ _ c.requires.can.counted
    (λ hosts sound. c.commit.ensures.steps hosts _ sound)
    (λ hosts sound. c.commit.ensures.leaves hosts _ (length c.args.rules.now) sound))

pub returns-in-Abort-clause-did : goal.returns-in-Abort-clause-did
returns-in-Abort-clause-did g c = rw c.in-Abort.is (did_alone c.abort.result (λ es. es.items) _ _ _ _ _ _ _ _ c.requires.can.counted
    (λ hosts sound. c.abort.ensures.steps hosts (map (λ r. r.slack) c.args.rules.now) _ sound)
    (λ hosts sound. c.abort.ensures.leaves hosts _ (length c.args.rules.now) sound))

pub returns-in-Record-clause-did : goal.returns-in-Record-clause-did
returns-in-Record-clause-did g c = rw c.in-Record.is (did_alone c.begin_record.result (λ es. es.items) _ _ _ _ _ _ _ _ c.requires.can.counted
    (λ hosts sound. c.begin_record.ensures.steps hosts (map (λ r. r.slack) c.args.rules.now) _ sound)
    (λ hosts sound. c.begin_record.ensures.leaves _ (length c.args.rules.now)))

pub returns-in-Flush-clause-did : goal.returns-in-Flush-clause-did
returns-in-Flush-clause-did g c = rw c.in-Flush.is (did_whole c.flush.result (λ es. es.items) _ _ _ _ _ _ _ _ _ _ c.flush.ensures.did)

pub flush-requires-clause-alone : goal.flush-requires-clause-alone
flush-requires-clause-alone g c =
    alone_by c.args.self.now.batch (command.Bare c.args.bare) (ap (λ b. is_done_in_batch (command.Bare b)) c.in-Flush.is) c.requires.batch
