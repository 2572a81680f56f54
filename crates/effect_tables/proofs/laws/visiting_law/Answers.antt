use Rattle.effect_tables.proofs.TurnByTurn.{goes_on}
use Rattle.effect_tables.proofs.Visits.{turn_ran, turn_world}
use Rattle.effect_tables.proofs.laws.visiting_law.Goals as goal

pub returns-clause-turns : goal.returns-clause-turns
returns-clause-turns c = λ env w. record { world = turn_world env w; ran = turn_ran env w }

pub returns-clause-flushes : goal.returns-clause-flushes
returns-clause-flushes c = goes_on
