use Rattle.tpl_model.proofs.Needs.Needed.{places_law}
use Rattle.tpl_model.proofs.laws.places_law.Goals as goal

pub returns : goal.returns
returns c = places_law
