use Rattle.tpl_model.proofs.Alike.{same_rows}
use Rattle.tpl_model.proofs.laws.same_rows_law.Goals as goal

pub returns : goal.returns
returns c = same_rows
