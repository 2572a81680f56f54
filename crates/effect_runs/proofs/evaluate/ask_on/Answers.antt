use Rattle.std.proofs.Common.{refl, sym, ap, ◌∙◌}
use Rattle.sig_base.specs.declared.value.Outcome.TheVariants.{Bad}
use Rattle.sig_untrack.specs.declared.body.BodyStep.TheVariants as step
use Rattle.sig_untrack.specs.Links.{step_of}
use Rattle.effect_runs.specs.declared.run.BodyEnd.TheVariants as end
use Rattle.effect_runs.proofs.Asks.{answers_by, ends, fails_by, learns, nothing_read, reads_settled, run_is, settled_one}
use Rattle.effect_runs.proofs.Slots.{slot_is_new, smaller}
use Rattle.effect_runs.proofs.Wanted.{acts_are_few, fault_is_short}
use Rattle.effect_runs.proofs.evaluate.ask_on.Goals as goal

pub asking-init : goal.asking-init
asking-init g c =
    let e = c.new-reading.ensures in
    record {
      asking = nothing_read _ _ c.args.body.now c.args.names.now c.new-reading.result.tracked.items c.new-reading.result.untracked.items
          c.new-reading.result.reads.items e.tracked e.untracked e.reads c.requires.can.idle;
      can = c.requires.can;
      counted = c.requires.counted;
    }

pub returns-in-Acts-clause-run : goal.returns-in-Acts-clause-run
returns-in-Acts-clause-run g c =
    let now = c.asking.reading in
    run_is _ _ c.args.body.now c.args.names.now c.asking.invariant.asking.reads now.reads.items (end.Acts c.in-Acts.acts)
    (ends _ _ _ _ c.args.body.now c.args.names.now now.tracked.items now.untracked.items now.reads.items (end.Acts c.in-Acts.acts) (step.Acts c.in-Acts.acts)
    c.requires.fit c.asking.invariant.asking
    (answers_by c.args.body.now c.args.names.now now.tracked.items now.untracked.items c.deref.result.now c.deref-in-asking.result.now c.in_ok-slot.field-0
    (step.Acts c.in-Acts.acts) c.in_ok-slot.ensures c.deref.ensures.value c.deref-in-asking.ensures.value c.in-Acts.is)
    (λ p source go. refl))
    (record { tracked = now.reads; end = end.Acts c.in-Acts.acts }) refl refl

pub returns-in-Acts-clause-after : goal.returns-in-Acts-clause-after
returns-in-Acts-clause-after g c =
    let now = c.asking.reading in
    reads_settled _ _ c.args.body.now c.args.names.now c.asking.invariant.asking.reads now.reads.items (end.Acts c.in-Acts.acts)
    (ends _ _ _ _ c.args.body.now c.args.names.now now.tracked.items now.untracked.items now.reads.items (end.Acts c.in-Acts.acts) (step.Acts c.in-Acts.acts)
    c.requires.fit c.asking.invariant.asking
    (answers_by c.args.body.now c.args.names.now now.tracked.items now.untracked.items c.deref.result.now c.deref-in-asking.result.now c.in_ok-slot.field-0
    (step.Acts c.in-Acts.acts) c.in_ok-slot.ensures c.deref.ensures.value c.deref-in-asking.ensures.value c.in-Acts.is)
    (λ p source go. refl))
    _ _ c.asking.invariant.asking.read.settles

pub returns-in-Acts-clause-few : goal.returns-in-Acts-clause-few
returns-in-Acts-clause-few g c =
    acts_are_few c.args.body.now c.deref.result.now c.deref-in-asking.result.now c.in_ok-slot.field-0 c.in-Acts.acts.items c.in_ok-slot.ensures
    (λ p. ap (step_of p) c.in-Acts.is)

pub returns-in-Fail-clause-run : goal.returns-in-Fail-clause-run
returns-in-Fail-clause-run g c =
    let now = c.asking.reading in
    run_is _ _ c.args.body.now c.args.names.now c.asking.invariant.asking.reads now.reads.items (end.Fail c.in-Fail.fault)
    (ends _ _ _ _ c.args.body.now c.args.names.now now.tracked.items now.untracked.items now.reads.items (end.Fail c.in-Fail.fault) (step.Fail c.in-Fail.fault)
    c.requires.fit c.asking.invariant.asking
    (answers_by c.args.body.now c.args.names.now now.tracked.items now.untracked.items c.deref.result.now c.deref-in-asking.result.now c.in_ok-slot.field-0
    (step.Fail c.in-Fail.fault) c.in_ok-slot.ensures c.deref.ensures.value c.deref-in-asking.ensures.value c.in-Fail.is)
    (λ p source go. refl))
    (record { tracked = now.reads; end = end.Fail c.in-Fail.fault }) refl refl

pub returns-in-Fail-clause-after : goal.returns-in-Fail-clause-after
returns-in-Fail-clause-after g c =
    let now = c.asking.reading in
    reads_settled _ _ c.args.body.now c.args.names.now c.asking.invariant.asking.reads now.reads.items (end.Fail c.in-Fail.fault)
    (ends _ _ _ _ c.args.body.now c.args.names.now now.tracked.items now.untracked.items now.reads.items (end.Fail c.in-Fail.fault) (step.Fail c.in-Fail.fault)
    c.requires.fit c.asking.invariant.asking
    (answers_by c.args.body.now c.args.names.now now.tracked.items now.untracked.items c.deref.result.now c.deref-in-asking.result.now c.in_ok-slot.field-0
    (step.Fail c.in-Fail.fault) c.in_ok-slot.ensures c.deref.ensures.value c.deref-in-asking.ensures.value c.in-Fail.is)
    (λ p source go. refl))
    _ _ c.asking.invariant.asking.read.settles

pub slot_name-id-requires : goal.slot_name-id-requires
slot_name-id-requires g c =
    let now = c.asking.reading in
    (slot_is_new c.args.body.now c.args.names.now now.tracked.items now.untracked.items c.deref.result.now c.deref-in-asking.result.now c.in-Read.slot c.in-Read.tracked
    c.in_ok-slot.field-0 c.requires.fit c.in_ok-slot.ensures c.deref.ensures.value c.deref-in-asking.ensures.value c.in-Read.is).inside

pub asking-smaller : goal.asking-smaller
asking-smaller g c =
    let now = c.asking.reading in
    let next = c.in_ok-learn-in-Good.ensures in
    smaller _ now.tracked.items now.untracked.items c.learn.new.self.tracked.items c.learn.new.self.untracked.items c.in-Read.slot c.in-Read.tracked c.in-Good.value
    (slot_is_new c.args.body.now c.args.names.now now.tracked.items now.untracked.items c.deref.result.now c.deref-in-asking.result.now c.in-Read.slot c.in-Read.tracked
    c.in_ok-slot.field-0 c.requires.fit c.in_ok-slot.ensures c.deref.ensures.value c.deref-in-asking.ensures.value c.in-Read.is)
    next.tracked next.untracked

pub asking-preserved : goal.asking-preserved
asking-preserved g c =
    let now = c.asking.reading in
    let next = c.in_ok-learn-in-Good.ensures in
    let e = c.in_ok-value.ensures in
    record {
      asking = learns _ _ _ _ _ _ c.args.body.now c.args.names.now now.tracked.items now.untracked.items now.reads.items c.in-Read.slot c.slot_name-id.result
          c.in-Read.tracked c.requires.fit c.asking.invariant.asking c.slot_name-id.ensures
          (answers_by c.args.body.now c.args.names.now now.tracked.items now.untracked.items c.deref.result.now c.deref-in-asking.result.now c.in_ok-slot.field-0
          (step.Read c.in-Read.slot c.in-Read.tracked) c.in_ok-slot.ensures c.deref.ensures.value c.deref-in-asking.ensures.value c.in-Read.is)
          e.settles
          c.learn.new.self.tracked.items c.learn.new.self.untracked.items c.learn.new.self.reads.items c.in-Good.value
          (λ hosts all kept. sym c.in-Good.is ∙ e.value hosts all kept) next.tracked next.untracked next.reads;
      can = e.can c.asking.invariant.can;
      counted = e.counted;
    }

pub returns-in-Bad-clause-run : goal.returns-in-Bad-clause-run
returns-in-Bad-clause-run g c =
    let now = c.asking.reading in
    let e = c.in_ok-value.ensures in
    run_is _ _ c.args.body.now c.args.names.now _ _ (end.Fail c.in-Bad.fault)
    (fails_by _ _ _ _ c.args.body.now c.args.names.now now.tracked.items now.untracked.items now.reads.items c.in-Read.slot c.slot_name-id.result
    c.in-Read.tracked c.in-Bad.fault c.requires.fit c.asking.invariant.asking c.slot_name-id.ensures
    (answers_by c.args.body.now c.args.names.now now.tracked.items now.untracked.items c.deref.result.now c.deref-in-asking.result.now c.in_ok-slot.field-0
    (step.Read c.in-Read.slot c.in-Read.tracked) c.in_ok-slot.ensures c.deref.ensures.value c.deref-in-asking.ensures.value c.in-Read.is)
    (λ hosts all kept. sym c.in-Bad.is ∙ e.value hosts all kept))
    _ c.in_ok-run-in-Bad.ensures.reads c.in_ok-run-in-Bad.ensures.end

pub returns-in-Bad-clause-after : goal.returns-in-Bad-clause-after
returns-in-Bad-clause-after g c =
    let now = c.asking.reading in
    let e = c.in_ok-value.ensures in
    reads_settled _ _ c.args.body.now c.args.names.now _ _ (end.Fail c.in-Bad.fault)
    (fails_by _ _ _ _ c.args.body.now c.args.names.now now.tracked.items now.untracked.items now.reads.items c.in-Read.slot c.slot_name-id.result
    c.in-Read.tracked c.in-Bad.fault c.requires.fit c.asking.invariant.asking c.slot_name-id.ensures
    (answers_by c.args.body.now c.args.names.now now.tracked.items now.untracked.items c.deref.result.now c.deref-in-asking.result.now c.in_ok-slot.field-0
    (step.Read c.in-Read.slot c.in-Read.tracked) c.in_ok-slot.ensures c.deref.ensures.value c.deref-in-asking.ensures.value c.in-Read.is)
    (λ hosts all kept. sym c.in-Bad.is ∙ e.value hosts all kept))
    _ _
    (settled_one _ _ _ _ _ _ c.asking.invariant.asking.reads c.slot_name-id.result (Bad c.in-Bad.fault) c.asking.invariant.asking.read.settles
    e.settles)

pub returns-in-Bad-clause-few : goal.returns-in-Bad-clause-few
returns-in-Bad-clause-few g c = fault_is_short _ _ c.in-Bad.fault c.in_ok-run-in-Bad.ensures.end
