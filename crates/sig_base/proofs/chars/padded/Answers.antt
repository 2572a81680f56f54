use Rattle.std.proofs.Common.{arith}
use Rattle.sig_base.specs.declared.chars.TheConstants.{FEW}
use Rattle.sig_base.proofs.Placing.{counted_all}
use Rattle.sig_base.proofs.chars.padded.Goals as goal

pub returns : goal.returns
returns c = counted_all FEW c.args.text.now c.loop-at.array c.loop-at.at c.requires (omega arith) c.loop-at.invariant
