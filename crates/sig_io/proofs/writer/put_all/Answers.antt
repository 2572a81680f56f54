use Rattle.std.proofs.Common.{arith}
use Rattle.sig_io.proofs.Pieces.{front_more}
use Rattle.sig_io.proofs.writer.put_all.Goals as goal

pub loop-rest-preserved : goal.loop-rest-preserved
loop-rest-preserved g c = record {
  front = front_more _ _ _ _ _ _ c.loop-rest.invariant.front c.in_ok-taken.ensures.bytes;
  later = omega (arith, c.loop-rest.invariant.later, c.put.ensures.cause.later);
}
