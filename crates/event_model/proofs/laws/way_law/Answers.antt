use Rattle.event_model.proofs.Shared.{way_by_parent}
use Rattle.event_model.proofs.laws.way_law.Goals as goal

pub returns : goal.returns
returns c = λ n now t. way_by_parent n now t
