use Rattle.event_model.proofs.Shared.{line_of_node}
use Rattle.event_model.proofs.laws.node_law.Goals as goal

pub returns : goal.returns
returns c = λ p a q o. line_of_node p a q o
