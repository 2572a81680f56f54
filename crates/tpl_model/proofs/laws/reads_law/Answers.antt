use Rattle.tpl_model.proofs.NextPage.Lookups.{reads_law}
use Rattle.tpl_model.proofs.laws.reads_law.Goals as goal

pub returns : goal.returns
returns c = reads_law
