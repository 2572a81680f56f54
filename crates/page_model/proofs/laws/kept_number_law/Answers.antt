use Rattle.page_model.proofs.Shared.{kept_number}
use Rattle.page_model.proofs.laws.kept_number_law.Goals as goal

pub returns : goal.returns
returns c = λ old shape a h g. kept_number old shape a h g
