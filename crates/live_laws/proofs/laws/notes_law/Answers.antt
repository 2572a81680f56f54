use Rattle.live_laws.proofs.Events.{notes_law}
use Rattle.live_laws.proofs.laws.notes_law.Goals as goal

pub returns : goal.returns
returns c = notes_law
