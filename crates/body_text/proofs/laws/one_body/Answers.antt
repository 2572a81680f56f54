use Rattle.body_text.proofs.Uniqueness.{one_answer, some_answer}
use Rattle.body_text.proofs.Blocks.{spelled}
use Rattle.body_text.proofs.laws.one_body.Goals as goal

pub returns-clause-spelled : goal.returns-clause-spelled
returns-clause-spelled c = spelled

pub returns-clause-some : goal.returns-clause-some
returns-clause-some c = some_answer

pub returns-clause-one : goal.returns-clause-one
returns-clause-one c = one_answer
