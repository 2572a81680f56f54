use Rattle.page_model.proofs.Shared.{unused_number}
use Rattle.page_model.proofs.laws.unused_number_law.Goals as goal

pub returns : goal.returns
returns c = λ old shape a h g. unused_number old shape a h g
