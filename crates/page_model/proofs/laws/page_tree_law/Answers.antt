use Rattle.page_model.proofs.Shared.{tree_made}
use Rattle.page_model.proofs.laws.page_tree_law.Goals as goal

pub returns : goal.returns
returns c = λ old shape p s. tree_made old shape p s
