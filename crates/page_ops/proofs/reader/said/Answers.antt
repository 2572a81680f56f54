use Rattle.page_ops.proofs.Texts.{move_said, text_op_said, unattr_said}
use Rattle.page_ops.proofs.reader.said.Goals as goal

pub returns-in-Move-clause-same : goal.returns-in-Move-clause-same
returns-in-Move-clause-same c = λ o s. move_said c.args.number c.number_at.result.0 c.args.bytes.now c.number_at.result.1.now o (rw c.in-Move.is at s) c.number_at.ensures.same

pub returns-in_ok-literal-in-Text-clause-same : goal.returns-in_ok-literal-in-Text-clause-same
returns-in_ok-literal-in-Text-clause-same c = λ o s. text_op_said c.args.number c.args.bytes.now c.in_ok-literal-in-Text.field-0 o (rw c.in-Text.is at s) c.in_ok-literal-in-Text.ensures.same

pub returns-in_ok-name-in-Unattr-clause-same : goal.returns-in_ok-name-in-Unattr-clause-same
returns-in_ok-name-in-Unattr-clause-same c = λ o s. unattr_said c.args.number c.args.bytes.now c.word.result.0.now c.in_ok-name-in-Unattr.field-0 o (rw c.in-Unattr.is at s) c.word.ensures.front c.in_ok-name-in-Unattr.ensures.same
