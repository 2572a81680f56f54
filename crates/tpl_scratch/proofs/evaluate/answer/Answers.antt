use Rattle.std.specs.Option.{option_copied}
use Rattle.sig_formula.specs.Trees.{tree}
use Rattle.tpl_model.specs.Shapes.{row_here}
use Rattle.tpl_scratch.proofs.Asks.{counted_answer}
use Rattle.tpl_scratch.proofs.evaluate.answer.Goals as goal

pub returns-clause-answer : goal.returns-clause-answer
returns-clause-answer c =
    counted_answer c.args.known.now (row_here (option_copied c.args.here)) (option_copied c.row_of-row.result) (tree c.args.formula.now) c.args.read.now
    c.in_ok-step.step _ c.judged.ensures.answer c.in_ok-step.ensures c.row_of-row.ensures.row
