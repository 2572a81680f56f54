use Rattle.formula_text.proofs.Refusals.{refuses}
use Rattle.formula_text.proofs.wired.read_formula.Goals as goal

pub returns-clause-refused : goal.returns-clause-refused
returns-clause-refused c =
    refuses c.args.line.now c.args.tokens.now c.args.from c.in-Some.to c.in-Some.rough c.args.allow c.in-Err.e
    (rw c.in-Some.is at c.in_ok-rough.ensures) c.in-Err.ensures.refused
