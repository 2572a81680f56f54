use Rattle.tpl_syntax.proofs.Uniqueness.{one_answer, some_answer}
use Rattle.tpl_syntax.proofs.laws.one_template.Goals as goal

pub returns-clause-some : goal.returns-clause-some
returns-clause-some c = some_answer

pub returns-clause-one : goal.returns-clause-one
returns-clause-one c = one_answer
