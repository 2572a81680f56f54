use Rattle.page_model.proofs.Shared.{page_after}
use Rattle.page_model.proofs.laws.page_law.Goals as goal

pub returns : goal.returns
returns c = λ old shape p s. page_after old shape p s
