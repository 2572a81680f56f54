use Rattle.event_model.proofs.Shared.{line_of_address}
use Rattle.event_model.proofs.laws.line_law.Goals as goal

pub returns : goal.returns
returns c = λ l r. line_of_address l r
