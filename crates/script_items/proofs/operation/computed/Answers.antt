use Rattle.script_items.proofs.Operations.{plain_operation}
use Rattle.script_items.proofs.operation.computed.Goals as goal

pub returns : goal.returns
returns c = λ k.
    plain_operation k c.args.text.now c.in_ok-name.name c.in-Some.parts.name.now c.in-Some.parts.left.now c.in-Some.parts.right.now
    c.in-Some.parts.operator c.in_ok-left.left c.in_ok-right.right c.in_ok-formula.formula c.in-Some.ensures c.in_ok-name.ensures
    c.in_ok-left.ensures c.in_ok-right.ensures c.in_ok-formula.ensures
