use Rattle.why_laws.proofs.Beginnings.{beginning_law}
use Rattle.why_laws.proofs.laws.beginning_law.Goals as goal

pub returns : goal.returns
returns c = beginning_law
