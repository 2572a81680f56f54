use Rattle.tpl_model.proofs.PageUpdates.Mounts.{mount_law}
use Rattle.tpl_model.proofs.laws.mount_law.Goals as goal

pub returns : goal.returns
returns c = mount_law
