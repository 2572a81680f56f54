use Rattle.page_ops.proofs.Refusals.{none_count}
use Rattle.page_ops.proofs.judge.children.Goals as goal

pub returns-in-None : goal.returns-in-None
returns-in-None c = none_count c.args.id c.args.tree.now c.in-None.ensures
