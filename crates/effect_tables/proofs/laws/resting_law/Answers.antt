use Rattle.effect_tables.proofs.Acts.{all_rest}
use Rattle.effect_tables.proofs.Commands.{commands_rest}
use Rattle.effect_tables.proofs.Turns.{flushes_rest, looks_rest, turns_rest}
use Rattle.effect_tables.proofs.laws.resting_law.Goals as goal

pub returns-clause-acts : goal.returns-clause-acts
returns-clause-acts c = all_rest

pub returns-clause-turns : goal.returns-clause-turns
returns-clause-turns c = turns_rest

pub returns-clause-looks : goal.returns-clause-looks
returns-clause-looks c = looks_rest

pub returns-clause-flushes : goal.returns-clause-flushes
returns-clause-flushes c = flushes_rest

pub returns-clause-commands : goal.returns-clause-commands
returns-clause-commands c = commands_rest
