use Rattle.script_items.proofs.Commonest.{plain_flush}
use Rattle.script_items.proofs.common.flush.Goals as goal

pub returns : goal.returns
returns c = plain_flush
