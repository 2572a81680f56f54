use Rattle.page_model.proofs.Shared.{tree_after}
use Rattle.page_model.proofs.laws.tree_law.Goals as goal

pub returns : goal.returns
returns c = λ op before now w b h. tree_after op before now w b h
