use Rattle.page_model.proofs.Shared.{html_after}
use Rattle.page_model.proofs.laws.html_law.Goals as goal

pub returns : goal.returns
returns c = λ old shape. html_after old shape
