use Rattle.std.proofs.Common.{arith}
use Rattle.script_lines.proofs.Shared.{short_lines}
use Rattle.template_rows.proofs.blocks.read.Goals as goal

pub read_template-requires-clause-lines : goal.read_template-requires-clause-lines
read_template-requires-clause-lines c = short_lines c.args.block.now (omega arith)
