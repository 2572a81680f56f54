use Rattle.script_items.proofs.Items.{items_in_turn}
use Rattle.script_items.proofs.laws.items_in_turn.Goals as goal

pub returns : goal.returns
returns c = items_in_turn
