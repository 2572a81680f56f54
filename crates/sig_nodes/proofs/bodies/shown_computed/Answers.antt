use Rattle.std.proofs.Common.{◌≡◌, Bool, Option, None, Some, true, refl, ap, sym, ◌∙◌, subst}
use Rattle.std.specs.Prelude.{IfOk}
use Rattle.sig_base.specs.declared.value.Fault.TheVariants as fault
use Rattle.sig_base.specs.declared.value.Outcome.{Outcome}
use Rattle.sig_base.specs.declared.value.Outcome.TheVariants.{Bad}
use Rattle.signal_model.specs.Sound.{kept_outcome}
use Rattle.sig_nodes.specs.Answers.{shown_computed}
use Rattle.sig_nodes.proofs.bodies.shown_computed.Goals as goal

evaluating : (o : Option Outcome) → Bad fault.Cycle ≡ shown_computed true o
evaluating None = refl
evaluating (Some o) = refl

pub returns-then-is_computing : goal.returns-then-is_computing
returns-then-is_computing c =
    evaluating (kept_outcome c.args.computation.now.memo)
    ∙ ap (λ (b : Bool). shown_computed b (kept_outcome c.args.computation.now.memo)) (sym c.if-is_computing.true ∙ c.is_computing.ensures)

pub returns : goal.returns
returns c =
    subst (λ (b : Bool). IfOk c.kept_or_cycle.result (λ o. o ≡ shown_computed b (kept_outcome c.args.computation.now.memo)))
    (sym c.if-is_computing.false ∙ c.is_computing.ensures) c.kept_or_cycle.ensures
