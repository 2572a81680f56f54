use Rattle.signal_model.proofs.Depth.{value_by_cases}
use Rattle.signal_model.proofs.laws.value_by_cases.Goals as goal

pub returns : goal.returns
returns c = value_by_cases
