use Rattle.std.proofs.Common.{sym, subst}
use Rattle.std.specs.Option.{option_copied}
use Rattle.tpl_hearing.specs.Heard.{Evaluates, recipe_of}
use Rattle.tpl_hearing.proofs.evaluation.evaluate.Goals as goal

pub returns-clause-evaluated : goal.returns-clause-evaluated
returns-clause-evaluated g c =
    subst (λ t. Evaluates (recipe_of t (option_copied c.args.row) c.args.slots.now) c.in_ok-evaluated-2.evaluated c.args.heard.now c.evaluate_slot.new.heard)
    (sym c.in-Some.ensures.is) (c.in_ok-evaluated-2.ensures.evaluated (option_copied c.args.row))
