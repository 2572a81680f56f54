use Rattle.signal_model.proofs.Visits.{visit_by_cases}
use Rattle.signal_model.proofs.laws.visit_by_cases.Goals as goal

pub returns : goal.returns
returns c = visit_by_cases
