use Rattle.page_ops.specs.Ops.{op_of}
use Rattle.page_ops.proofs.Shared.{text_brings}
use Rattle.page_rows.proofs.lines.apply_line.Goals as goal

pub apply-requires : goal.apply-requires
apply-requires c = text_brings (op_of c.in_ok-op.op) c.in_ok-op.ensures.writable
