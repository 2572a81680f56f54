use Rattle.std.proofs.Common.{Some, length, sym, ap, subst, ◌∙◌}
use Rattle.std.proofs.lemmas.Result.{err_from_is_err_and}
use Rattle.std.specs.Option.{option_copied}
use Rattle.sig_base.specs.declared.value.Outcome.{Outcome}
use Rattle.sig_base.specs.declared.value.Step.TheVariants.{Read, Done, Fail}
use Rattle.sig_formula.specs.Trees.{tree}
use Rattle.tpl_model.specs.Shapes.{row_here}
use Rattle.tpl_scratch.proofs.Asks.{IsAsking, answer_on, asked_more, asks, asks_new, ends_bad, ends_good, ends_read, fewer_unknown, nothing_asked}
use Rattle.tpl_scratch.proofs.evaluate.evaluated.Goals as goal

pub asking-init : goal.asking-init
asking-init c =
    subst (IsAsking c.args.known.now (row_here (option_copied c.args.here)) (tree c.args.formula.now)) (sym c.new-read.ensures.items)
    (nothing_asked c.args.known.now (row_here (option_copied c.args.here)) (tree c.args.formula.now))

pub returns-in-Done-clause-found : goal.returns-in-Done-clause-found
returns-in-Done-clause-found c =
    let row = row_here (option_copied c.args.here) in
    ends_good c.args.known.now row (tree c.args.formula.now) c.asking.read.items c.in-Done.value c.asking.invariant
    (answer_on c.args.known.now row (tree c.args.formula.now) c.asking.read.items c.deref.result.now c.in_ok-slot.field-0 (Done c.in-Done.value)
    c.in_ok-slot.ensures.answer c.deref.ensures.value c.in-Done.is)

pub returns-in-Fail-clause-found : goal.returns-in-Fail-clause-found
returns-in-Fail-clause-found c =
    let row = row_here (option_copied c.args.here) in
    ends_bad c.args.known.now row (tree c.args.formula.now) c.asking.read.items c.in-Fail.fault c.asking.invariant
    (answer_on c.args.known.now row (tree c.args.formula.now) c.asking.read.items c.deref.result.now c.in_ok-slot.field-0 (Fail c.in-Fail.fault)
    c.in_ok-slot.ensures.answer c.deref.ensures.value c.in-Fail.is)

pub asking-smaller : goal.asking-smaller
asking-smaller c =
    fewer_unknown (length c.args.known.now) c.asking.read.items c.learn.new.read.items c.in-Read.slot c.in-Good.value
    (asks_new (length c.args.known.now) c.asking.read.items c.deref.result.now c.in_ok-slot.field-0 c.in-Read.slot c.in_ok-slot.ensures.judged
    c.deref.ensures.value c.in-Read.is)
    c.in_ok-learn-in-Good.ensures

pub asking-preserved : goal.asking-preserved
asking-preserved c =
    let row = row_here (option_copied c.args.here) in
    let new = asks_new (length c.args.known.now) c.asking.read.items c.deref.result.now c.in_ok-slot.field-0 c.in-Read.slot c.in_ok-slot.ensures.judged
    c.deref.ensures.value c.in-Read.is in
    asked_more c.args.known.now row (tree c.args.formula.now) c.asking.read.items c.learn.new.read.items c.in-Read.slot c.in-Good.value c.asking.invariant
    (answer_on c.args.known.now row (tree c.args.formula.now) c.asking.read.items c.deref.result.now c.in_ok-slot.field-0 (Read c.in-Read.slot)
    c.in_ok-slot.ensures.answer c.deref.ensures.value c.in-Read.is)
    new.inside (c.in_ok-value.ensures.found ∙ ap (λ (o : Outcome). Some (Some o)) c.in-Good.is) c.in_ok-learn-in-Good.ensures

pub returns-in-Bad-clause-found : goal.returns-in-Bad-clause-found
returns-in-Bad-clause-found c =
    let row = row_here (option_copied c.args.here) in
    let new = asks_new (length c.args.known.now) c.asking.read.items c.deref.result.now c.in_ok-slot.field-0 c.in-Read.slot c.in_ok-slot.ensures.judged
    c.deref.ensures.value c.in-Read.is in
    ends_read c.args.known.now row (tree c.args.formula.now) c.asking.read.items c.in-Read.slot c.in-Bad.fault c.asking.invariant
    (answer_on c.args.known.now row (tree c.args.formula.now) c.asking.read.items c.deref.result.now c.in_ok-slot.field-0 (Read c.in-Read.slot)
    c.in_ok-slot.ensures.answer c.deref.ensures.value c.in-Read.is)
    new.inside (c.in_ok-value.ensures.found ∙ ap (λ (o : Outcome). Some (Some o)) c.in-Bad.is)

pub returns-in_err-value-clause-stops : goal.returns-in_err-value-clause-stops
returns-in_err-value-clause-stops c =
    let row = row_here (option_copied c.args.here) in
    let new = asks_new (length c.args.known.now) c.asking.read.items c.deref.result.now c.in_ok-slot.field-0 c.in-Read.slot c.in_ok-slot.ensures.judged
    c.deref.ensures.value c.in-Read.is in
    let p = err_from_is_err_and c.from_residual-in_err-value.result c.from_residual-in_err-value.ensures.1 in
    rw (p.1, p.2)
    (asks c.args.known.now row (tree c.args.formula.now) c.asking.read.items c.in-Read.slot c.in_err-value.field-0.0 c.asking.invariant
    (answer_on c.args.known.now row (tree c.args.formula.now) c.asking.read.items c.deref.result.now c.in_ok-slot.field-0 (Read c.in-Read.slot)
    c.in_ok-slot.ensures.answer c.deref.ensures.value c.in-Read.is)
    new.inside c.in_err-value.ensures.need)
