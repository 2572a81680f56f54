use Rattle.signal_laws.proofs.AfterCreation.{computed_law}
use Rattle.signal_laws.proofs.laws.computed_law.Goals as goal

pub returns : goal.returns
returns c = computed_law
