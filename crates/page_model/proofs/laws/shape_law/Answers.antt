use Rattle.page_model.proofs.Shared.{shape_after}
use Rattle.page_model.proofs.laws.shape_law.Goals as goal

pub returns : goal.returns
returns c = λ old shape. shape_after old shape
