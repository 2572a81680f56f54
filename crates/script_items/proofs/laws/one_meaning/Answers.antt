use Rattle.live_cmd.proofs.Shared.{one_writing}
use Rattle.script_items.proofs.laws.one_meaning.Goals as goal

pub returns : goal.returns
returns c = one_writing
