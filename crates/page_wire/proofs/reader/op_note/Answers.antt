use Rattle.std.proofs.Common.{subst}
use Rattle.page_ops.specs.Ops.{Refuses}
use Rattle.page_wire.proofs.Bodies.{no_op}
use Rattle.page_wire.proofs.reader.op_note.Goals as goal

pub returns-in-Err-Bad-clause-bad : goal.returns-in-Err-Bad-clause-bad
returns-in-Err-Bad-clause-bad c = λ e.
    let why = subst (Refuses c.args.rest.now) c.in-Err-Bad.field-0-is c.in-Err-Bad.ensures.refused in
    no_op c.args.name c.args.rest.now (λ o has same. why.0 o has same)
