use Rattle.page_model.proofs.Shared.{edits_writable}
use Rattle.page_model.proofs.laws.writable_law.Goals as goal

pub returns : goal.returns
returns c = λ old shape p s. edits_writable old shape p s
