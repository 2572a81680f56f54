use Rattle.script_items.proofs.Totality.{some_items}
use Rattle.script_items.proofs.Items.{one_list}
use Rattle.script_items.proofs.laws.one_list.Goals as goal

pub returns-clause-some : goal.returns-clause-some
returns-clause-some c = some_items

pub returns-clause-one : goal.returns-clause-one
returns-clause-one c = one_list
