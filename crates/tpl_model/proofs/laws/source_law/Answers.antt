use Rattle.tpl_model.proofs.PageUpdates.Mounts.{source_law}
use Rattle.tpl_model.proofs.laws.source_law.Goals as goal

pub returns : goal.returns
returns c = source_law
