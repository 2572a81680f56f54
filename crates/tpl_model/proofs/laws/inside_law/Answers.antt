use Rattle.tpl_model.proofs.Needs.Needed.{inside_law}
use Rattle.tpl_model.proofs.laws.inside_law.Goals as goal

pub returns : goal.returns
returns c = inside_law
