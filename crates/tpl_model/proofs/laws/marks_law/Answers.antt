use Rattle.tpl_model.proofs.NextPage.Marks.{marks_law}
use Rattle.tpl_model.proofs.laws.marks_law.Goals as goal

pub returns : goal.returns
returns c = marks_law
