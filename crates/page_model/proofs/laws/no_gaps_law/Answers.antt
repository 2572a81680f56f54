use Rattle.page_model.proofs.Shared.{no_gaps}
use Rattle.page_model.proofs.laws.no_gaps_law.Goals as goal

pub returns : goal.returns
returns c = λ old shape p s o n h g. no_gaps old shape p s o n h g
