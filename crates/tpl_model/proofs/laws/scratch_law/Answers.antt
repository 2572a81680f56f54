use Rattle.tpl_model.proofs.Ordered.{scratch_law}
use Rattle.tpl_model.proofs.laws.scratch_law.Goals as goal

pub returns : goal.returns
returns c = scratch_law
