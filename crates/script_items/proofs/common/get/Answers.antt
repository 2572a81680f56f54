use Rattle.script_items.proofs.Commonest.{plain_get}
use Rattle.script_items.proofs.common.get.Goals as goal

pub returns : goal.returns
returns c = λ k. plain_get k c.args.text.now c.in_ok-name.name c.in_ok-name.ensures
