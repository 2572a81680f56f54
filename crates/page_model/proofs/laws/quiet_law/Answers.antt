use Rattle.page_model.proofs.Shared.{edits_none}
use Rattle.page_model.proofs.laws.quiet_law.Goals as goal

pub returns : goal.returns
returns c = λ t. edits_none t
