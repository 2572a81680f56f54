use Rattle.std.proofs.Common.{arith}
use Rattle.script_lines.proofs.Shared.{short_lines}
use Rattle.body_rows.proofs.blocks.read_by.Goals as goal

pub read_body-requires-clause-lines : goal.read_body-requires-clause-lines
read_body-requires-clause-lines c = short_lines c.args.block.now (omega arith)
