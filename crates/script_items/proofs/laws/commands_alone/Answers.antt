use Rattle.script_items.proofs.FirstWords.{commands_alone}
use Rattle.script_items.proofs.laws.commands_alone.Goals as goal

pub returns : goal.returns
returns c = commands_alone
