use Rattle.script_items.proofs.Totality.{some_item}
use Rattle.script_items.proofs.Items.{one_item}
use Rattle.script_items.proofs.laws.one_item.Goals as goal

pub returns-clause-some : goal.returns-clause-some
returns-clause-some c = some_item

pub returns-clause-one : goal.returns-clause-one
returns-clause-one c = one_item
