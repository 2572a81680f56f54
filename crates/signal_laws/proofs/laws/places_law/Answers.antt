use Rattle.signal_laws.proofs.PlacedVisits.{places_law}
use Rattle.signal_laws.proofs.laws.places_law.Goals as goal

pub returns : goal.returns
returns c = places_law
