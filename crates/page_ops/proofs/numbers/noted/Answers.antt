use Rattle.std.proofs.Common.{get_or, nat_eq, refl}
use Rattle.indexmap.specs.IndexMap.{get}
use Rattle.page_ops.proofs.Subtrees.{noted_step}
use Rattle.page_ops.proofs.numbers.noted.Goals as goal

pub loop-number-preserved : goal.loop-number-preserved
loop-number-preserved c = λ q. noted_step q (get_or c.args.numbers.now c.loop-number.number-index 0) c.loop-number.number-index c.args.numbers.now (get nat_eq c.loop-number.seen) (get nat_eq c.note.new.seen) c.loop-number-test.true refl c.loop-number.invariant (c.in_ok-note.ensures q)
