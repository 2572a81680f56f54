use Rattle.std.proofs.Common.{◌^◌, arith, length, map, ap}
use Rattle.std.proofs.lemmas.List.{length-map}
use Rattle.live_model.specs.Machine.{is_done_in_batch}
use Rattle.live_core.proofs.Batched.{alone_by}
use Rattle.live_core.proofs.Doing.{can_ask, did_alone, did_within}
use Rattle.live_core.proofs.machine.Machine.perform.Goals as goal

pub returns-in-Cell-clause-did : goal.returns-in-Cell-clause-did
returns-in-Cell-clause-did g c = rw c.in-Cell.is (did_alone c.make_cell.result (λ es. es.items) _ _ _ _ _ _ _ _ c.requires.can.counted
    (λ hosts sound. c.make_cell.ensures.steps hosts (map (λ r. r.slack) c.args.rules.now) _ sound)
    (λ hosts sound. c.make_cell.ensures.leaves hosts _ (map (λ r. r.slack) c.args.rules.now) _ sound (length-map c.args.rules.now (λ r. r.slack)) (rw c.in-Cell.is at c.requires.places)))

pub returns-in-Set-clause-did : goal.returns-in-Set-clause-did
returns-in-Set-clause-did g c = rw c.in-Set.is (did_alone c.set.result (λ es. es.items) _ _ _ _ _ _ _ _ c.requires.can.counted
    (λ hosts sound. c.set.ensures.steps hosts _ sound)
    (λ hosts sound. c.set.ensures.leaves hosts _ (length c.args.rules.now) sound))

pub returns-in-Computed-clause-did : goal.returns-in-Computed-clause-did
returns-in-Computed-clause-did g c = rw c.in-Computed.is (did_alone c.make_computed.result (λ es. es.items) _ _ _ _ _ _ _ _ c.requires.can.counted
    (λ hosts sound. c.make_computed.ensures.steps hosts (map (λ r. r.slack) c.args.rules.now) _ c.requires.can.holds.agrees (rw c.in-Computed.is at c.requires.places) sound)
    (λ hosts sound. c.make_computed.ensures.leaves hosts _ _ sound c.requires.can.holds.agrees (rw c.in-Computed.is at c.requires.places)))

pub returns-in-Watcher-clause-did : goal.returns-in-Watcher-clause-did
returns-in-Watcher-clause-did g c = rw c.in-Watcher.is (did_alone c.make_watcher.result (λ es. es.items) _ _ _ _ _ _ _ _ c.requires.can.counted
    (λ hosts sound. c.make_watcher.ensures.steps hosts (map (λ r. r.slack) c.args.rules.now) _ sound)
    (λ hosts sound. c.make_watcher.ensures.leaves hosts _ (length c.args.rules.now) sound))

pub returns-in-Watch-clause-did : goal.returns-in-Watch-clause-did
returns-in-Watch-clause-did g c = rw c.in-Watch.is (did_alone c.watch.result (λ es. es.items) _ _ _ _ _ _ _ _ c.requires.can.counted
    (λ hosts sound. c.watch.ensures.steps hosts (map (λ r. r.slack) c.args.rules.now) _ sound)
    (λ hosts sound. c.watch.ensures.leaves hosts _ (length c.args.rules.now) sound))

pub returns-in-Unwatch-clause-did : goal.returns-in-Unwatch-clause-did
returns-in-Unwatch-clause-did g c = rw c.in-Unwatch.is (did_alone c.unwatch.result (λ es. es.items) _ _ _ _ _ _ _ _ c.requires.can.counted
    (λ hosts sound. c.unwatch.ensures.steps hosts (map (λ r. r.slack) c.args.rules.now) _ sound)
    (λ hosts sound. c.unwatch.ensures.leaves hosts _ (length c.args.rules.now) sound))

pub returns-in-Template-clause-did : goal.returns-in-Template-clause-did
returns-in-Template-clause-did g c = rw c.in-Template.is (did_alone c.make_template.result (λ es. es.items) _ _ _ _ _ _ _ _ c.requires.can.counted
    (λ hosts sound. c.make_template.ensures.steps hosts (map (λ r. r.slack) c.args.rules.now) _ sound)
    (λ hosts sound. c.make_template.ensures.leaves hosts _ (length c.args.rules.now) sound))

pub returns-in-Owner-clause-did : goal.returns-in-Owner-clause-did
returns-in-Owner-clause-did g c = rw c.in-Owner.is (did_alone c.make_owner.result (λ es. es.items) _ _ _ _ _ _ _ _ c.requires.can.counted
    (λ hosts sound. c.make_owner.ensures.steps hosts (map (λ r. r.slack) c.args.rules.now) _ sound)
    (λ hosts sound. c.make_owner.ensures.leaves hosts _ (length c.args.rules.now) sound))

pub returns-in-Effect-clause-did : goal.returns-in-Effect-clause-did
returns-in-Effect-clause-did g c = rw c.in-Effect.is (did_alone c.make_effect.result (λ es. es.items) _ _ _ _ _ _ _ _ c.requires.can.counted
    (λ hosts sound. c.make_effect.ensures.steps hosts (map (λ r. r.slack) c.args.rules.now) _ sound)
    (λ hosts sound. c.make_effect.ensures.leaves hosts _ (length c.args.rules.now) sound))

pub returns-in-List-clause-did : goal.returns-in-List-clause-did
returns-in-List-clause-did g c = rw c.in-List.is (did_alone c.make_list.result (λ es. es.items) _ _ _ _ _ _ _ _ c.requires.can.counted
    (λ hosts sound. c.make_list.ensures.steps hosts (map (λ r. r.slack) c.args.rules.now) _ sound)
    (λ hosts sound. c.make_list.ensures.leaves hosts _ (length c.args.rules.now) sound))

pub returns-in-Edit-clause-did : goal.returns-in-Edit-clause-did
returns-in-Edit-clause-did g c = rw c.in-Edit.is (did_alone c.edit.result (λ es. es.items) _ _ _ _ _ _ _ _ c.requires.can.counted
    (λ hosts sound. c.edit.ensures.steps hosts _ sound)
    (λ hosts sound. c.edit.ensures.leaves hosts _ (length c.args.rules.now) sound))

pub returns-in-On-clause-did : goal.returns-in-On-clause-did
returns-in-On-clause-did g c = rw c.in-On.is (did_alone c.make_handler.result (λ es. es.items) _ _ _ _ _ _ _ _ c.requires.can.counted
    (λ hosts sound. c.make_handler.ensures.steps hosts (map (λ r. r.slack) c.args.rules.now) _ sound)
    (λ hosts sound. c.make_handler.ensures.leaves hosts _ (length c.args.rules.now) sound))

pub returns-in-Rewire-clause-did : goal.returns-in-Rewire-clause-did
returns-in-Rewire-clause-did g c = rw c.in-Rewire.is (did_within c.rewire.result (λ es. es.items) _ _ _ _ _ _ _ _ 0 (2 ^ 80) _ (omega arith) (c.rewire.ensures.did (map (λ r. r.slack) c.args.rules.now) (length c.args.rules.now)))

pub returns-in-Mount-clause-did : goal.returns-in-Mount-clause-did
returns-in-Mount-clause-did g c = rw c.in-Mount.is (c.mount.ensures.did (map (λ r. r.slack) c.args.rules.now) (length c.args.rules.now))

pub returns-in-Named-clause-did : goal.returns-in-Named-clause-did
returns-in-Named-clause-did g c = rw c.in-Named.is c.do_verb.ensures.did

pub returns-in-Bare-clause-did : goal.returns-in-Bare-clause-did
returns-in-Bare-clause-did g c = rw c.in-Bare.is c.do_bare.ensures.did

pub returns-in-Fire-clause-did : goal.returns-in-Fire-clause-did
returns-in-Fire-clause-did g c = rw c.in-Fire.is (c.fire.ensures.did (length c.args.rules.now))

pub make_template-requires-clause-template : goal.make_template-requires-clause-template
make_template-requires-clause-template g c = rw c.in-Template.is at c.requires.read

pub edit-requires-clause-fits : goal.edit-requires-clause-fits
edit-requires-clause-fits g c = rw c.in-Edit.is at c.requires.rows

pub make_list-requires-clause-fields : goal.make_list-requires-clause-fields
make_list-requires-clause-fields g c = rw c.in-List.is at c.requires.read

pub make_computed-requires-clause-few : goal.make_computed-requires-clause-few
make_computed-requires-clause-few g c = rw c.in-Computed.is at c.requires.read

pub rewire-requires-clause-few : goal.rewire-requires-clause-few
rewire-requires-clause-few g c = rw c.in-Rewire.is at c.requires.read

pub make_effect-requires-clause-fit : goal.make_effect-requires-clause-fit
make_effect-requires-clause-fit g c = rw c.in-Effect.is at c.requires.read

pub do_verb-requires-clause-batch : goal.do_verb-requires-clause-batch
do_verb-requires-clause-batch g c = rw c.in-Named.is at c.requires.batch

pub do_bare-requires-clause-batch : goal.do_bare-requires-clause-batch
do_bare-requires-clause-batch g c = rw c.in-Bare.is at c.requires.batch

pub make_cell-requires-clause-alone : goal.make_cell-requires-clause-alone
make_cell-requires-clause-alone g c = alone_by c.args.self.now.batch c.args.command (ap is_done_in_batch c.in-Cell.is) c.requires.batch

pub make_list-requires-clause-alone : goal.make_list-requires-clause-alone
make_list-requires-clause-alone g c = alone_by c.args.self.now.batch c.args.command (ap is_done_in_batch c.in-List.is) c.requires.batch

pub make_computed-requires-clause-alone : goal.make_computed-requires-clause-alone
make_computed-requires-clause-alone g c = alone_by c.args.self.now.batch c.args.command (ap is_done_in_batch c.in-Computed.is) c.requires.batch

pub rewire-requires-clause-alone : goal.rewire-requires-clause-alone
rewire-requires-clause-alone g c = alone_by c.args.self.now.batch c.args.command (ap is_done_in_batch c.in-Rewire.is) c.requires.batch

pub make_handler-requires-clause-fit : goal.make_handler-requires-clause-fit
make_handler-requires-clause-fit g c = rw c.in-On.is at c.requires.read

pub fire-requires-clause-alone : goal.fire-requires-clause-alone
fire-requires-clause-alone g c = alone_by c.args.self.now.batch c.args.command (ap is_done_in_batch c.in-Fire.is) c.requires.batch

pub mount-requires-clause-can : goal.mount-requires-clause-can
mount-requires-clause-can g c = can_ask _ _ _ _ (2 ^ 124) (2 ^ 125) (omega arith) c.requires.can

pub rewire-requires-clause-can : goal.rewire-requires-clause-can
rewire-requires-clause-can g c = can_ask _ _ _ _ (2 ^ 124) (2 ^ 125) (omega arith) c.requires.can
