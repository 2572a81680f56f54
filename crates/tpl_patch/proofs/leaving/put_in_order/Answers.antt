use Rattle.tpl_patch.proofs.Sorted.{sorted_is}
use Rattle.tpl_patch.proofs.leaving.put_in_order.Goals as goal

pub returns : goal.returns
returns c = sorted_is c.args.numbers.now c.sort_unstable.new.self c.sort_unstable.ensures.permutation c.sort_unstable.ensures.sorted
