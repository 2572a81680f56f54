use Rattle.tpl_model.proofs.NextPage.Marks.{whole_law}
use Rattle.tpl_model.proofs.laws.whole_law.Goals as goal

pub returns : goal.returns
returns c = whole_law
