use Rattle.mark_laws.proofs.Unmarked.{explored_law, look_law}
use Rattle.mark_laws.proofs.laws.look_law.Goals as goal

pub returns-clause-state : goal.returns-clause-state
returns-clause-state c = look_law

pub returns-clause-explored : goal.returns-clause-explored
returns-clause-explored c = explored_law
