use Rattle.std.proofs.Common.{arith}
use Rattle.tpl_blocks.proofs.Stacks.{top_of}
use Rattle.tpl_blocks.proofs.builder.innermost.Goals as goal

pub returns : goal.returns
returns c =
    top_of c.pop.result c.args.parts.now.items c.pop.new.self.items _ _ _ (omega arith) (omega arith) c.pop.ensures.items c.pop.ensures.cases
