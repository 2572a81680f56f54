use Rattle.page_ops.proofs.Readable.{one_op}
use Rattle.page_ops.proofs.reader.one_reading.Goals as goal

pub returns : goal.returns
returns c = one_op
