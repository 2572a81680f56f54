use Rattle.std.proofs.Common.{Option, sym, ap, ◌∙◌}
use Rattle.std.specs.Option.{option_copied}
use Rattle.sig_formula.specs.declared.evaluate.FormulaStep.{FormulaStep}
use Rattle.sig_formula.specs.Machines.{next_by}
use Rattle.sig_formula.specs.Trees.{tree}
use Rattle.sig_formula.proofs.Progress.{reached_ends}
use Rattle.sig_formula.proofs.resume.Paused.run.Goals as goal

pub returns-in-Some-clause-answer : goal.returns-in-Some-clause-answer
returns-in-Some-clause-answer c =
    reached_ends c.args.tracking c.steps.self c.in-Some.step (tree c.args.f.now) (option_copied c.args.row) c.args.tracked.now c.args.aside.now
    c.steps.invariant.reached
    (sym (ap (λ (o : Option FormulaStep). next_by o c.step.new.self.machine) c.in-Some.is) ∙ c.in_ok-step.ensures.next)
