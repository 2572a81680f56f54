use Rattle.tpl_model.proofs.NextPage.Lookups.{removals_law}
use Rattle.tpl_model.proofs.laws.removals_law.Goals as goal

pub returns : goal.returns
returns c = removals_law
