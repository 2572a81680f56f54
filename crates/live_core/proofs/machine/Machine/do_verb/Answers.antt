use Rattle.std.proofs.Common.{◌^◌, arith, length, map, ap}
use Rattle.live_cmd.specs.declared.command.Command.TheVariants as command
use Rattle.live_model.specs.Machine.{is_done_in_batch}
use Rattle.live_core.proofs.Batched.{alone_by}
use Rattle.live_core.proofs.Commands.{anyway, leaves_as, leaves_same}
use Rattle.live_core.proofs.Doing.{can_ask, can_further, did_alone, did_within}
use Rattle.live_core.proofs.machine.Machine.do_verb.Goals as goal

pub returns-in-State-clause-did : goal.returns-in-State-clause-did
returns-in-State-clause-did g c = rw c.in-State.is (did_alone c.state.result (λ es. es.items) _ _ _ _ _ _ _ _ c.requires.can.counted
    (λ hosts sound. c.state.ensures.steps hosts (map (λ r. r.slack) c.args.rules.now) _ sound)
    (λ hosts sound. anyway c.state.result (leaves_as _ (length c.args.rules.now) c.args.self.now _ c.requires.can.ready c.state.ensures.same)))

pub returns-in-Pending-clause-did : goal.returns-in-Pending-clause-did
returns-in-Pending-clause-did g c = rw c.in-Pending.is (did_alone c.pending.result (λ es. es.items) _ _ _ _ _ _ _ _ c.requires.can.counted
    (λ hosts sound. c.pending.ensures.steps hosts (map (λ r. r.slack) c.args.rules.now) _ sound)
    (λ hosts sound. anyway c.pending.result (leaves_as _ (length c.args.rules.now) c.args.self.now _ c.requires.can.ready c.pending.ensures.same)))

pub returns-in-Sources-clause-did : goal.returns-in-Sources-clause-did
returns-in-Sources-clause-did g c = rw c.in-Sources.is (did_alone c.sources.result (λ es. es.items) _ _ _ _ _ _ _ _ c.requires.can.counted
    (λ hosts sound. c.sources.ensures.steps hosts (map (λ r. r.slack) c.args.rules.now) _ sound)
    (λ hosts sound. anyway c.sources.result (leaves_same _ (length c.args.rules.now) c.args.self.now c.requires.can.ready)))

pub returns-in-Show-clause-did : goal.returns-in-Show-clause-did
returns-in-Show-clause-did g c = rw c.in-Show.is (did_alone c.show.result (λ es. es.items) _ _ _ _ _ _ _ _ c.requires.can.counted
    (λ hosts sound. c.show.ensures.steps hosts (map (λ r. r.slack) c.args.rules.now) _ sound)
    (λ hosts sound. anyway c.show.result (leaves_same _ (length c.args.rules.now) c.args.self.now c.requires.can.ready)))

pub returns-in-Why-clause-did : goal.returns-in-Why-clause-did
returns-in-Why-clause-did g c = rw c.in-Why.is (did_alone c.why.result (λ es. es.items) _ _ _ _ _ _ _ _ c.requires.can.counted
    (λ hosts sound. c.why.ensures.steps hosts (map (λ r. r.slack) c.args.rules.now) _ sound)
    (λ hosts sound. anyway c.why.result (leaves_same _ (length c.args.rules.now) c.args.self.now c.requires.can.ready)))

pub returns-in-Get-clause-did : goal.returns-in-Get-clause-did
returns-in-Get-clause-did g c = rw c.in-Get.is (c.get.ensures.did (map (λ r. r.slack) c.args.rules.now) (length c.args.rules.now))

pub returns-in-Scratch-clause-did : goal.returns-in-Scratch-clause-did
returns-in-Scratch-clause-did g c = rw c.in-Scratch.is (c.scratch.ensures.did (map (λ r. r.slack) c.args.rules.now) (length c.args.rules.now))

pub returns-in-Dispose-clause-did : goal.returns-in-Dispose-clause-did
returns-in-Dispose-clause-did g c = rw c.in-Dispose.is (did_within c.dispose.result (λ es. es.items) _ _ _ _ _ _ _ _ 0 (2 ^ 80) _ (omega arith) (c.dispose.ensures.did (length c.args.rules.now)))

pub dispose-requires-clause-alone : goal.dispose-requires-clause-alone
dispose-requires-clause-alone g c =
    alone_by c.args.self.now.batch (command.Named c.args.verb c.args.name) (ap (λ v. is_done_in_batch (command.Named v c.args.name)) c.in-Dispose.is) c.requires.batch

pub get-requires : goal.get-requires
get-requires g c = record { can = can_ask _ _ _ _ (2 ^ 124) (2 ^ 125) (omega arith) c.requires.can }

pub scratch-requires-clause-can : goal.scratch-requires-clause-can
scratch-requires-clause-can g c = can_ask _ _ _ _ (2 ^ 124) (2 ^ 125) (omega arith) c.requires.can

pub dispose-requires-clause-can : goal.dispose-requires-clause-can
dispose-requires-clause-can g c = can_further _ _ _ _ (2 ^ 124) (2 ^ 125) (omega arith) c.requires.can
