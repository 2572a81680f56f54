use Rattle.tpl_model.proofs.NextPage.Lookups.{kept_law}
use Rattle.tpl_model.proofs.laws.kept_law.Goals as goal

pub returns : goal.returns
returns c = kept_law
