use Rattle.std.proofs.Common.{arith}
use Rattle.page_wire.proofs.NameBytes.{short}
use Rattle.page_wire.proofs.writer.headed.Goals as goal

-- a name's length fits a byte
pub overflow_cast-len : goal.overflow_cast-len
overflow_cast-len c = let few = short c.args.name.now c.len.ensures.good in omega (arith, few, c.len.ensures.count)
