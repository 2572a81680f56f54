use Rattle.page_model.proofs.Shared.{replay_leads}
use Rattle.page_model.proofs.laws.replay_law.Goals as goal

pub returns : goal.returns
returns c = λ old shape p s o. replay_leads old shape p s o
