use Rattle.live_writing.proofs.Pieces.{begins}
use Rattle.live_writing.proofs.laws.commands_read_back.Goals as goal

pub returns : goal.returns
returns c = begins
