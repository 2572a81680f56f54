use Rattle.signal_model.proofs.Asks.{asked_by_steps}
use Rattle.signal_model.proofs.laws.asked_by_steps.Goals as goal

pub returns : goal.returns
returns c = asked_by_steps
