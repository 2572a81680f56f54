use Rattle.script_items.proofs.Items.{items_cut}
use Rattle.script_items.proofs.laws.items_cut.Goals as goal

pub returns : goal.returns
returns c = items_cut
