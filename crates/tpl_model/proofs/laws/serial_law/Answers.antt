use Rattle.tpl_model.proofs.NextPage.Arrivals.{serial_law}
use Rattle.tpl_model.proofs.laws.serial_law.Goals as goal

pub returns : goal.returns
returns c = serial_law
