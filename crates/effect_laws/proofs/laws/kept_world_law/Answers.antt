use Rattle.effect_laws.proofs.KeptWorlds.{new_world_law, command_law, flush_law, commands_law}
use Rattle.effect_laws.proofs.laws.kept_world_law.Goals as goal

pub returns-clause-new_world : goal.returns-clause-new_world
returns-clause-new_world c = new_world_law

pub returns-clause-command : goal.returns-clause-command
returns-clause-command c = command_law

pub returns-clause-flush : goal.returns-clause-flush
returns-clause-flush c = flush_law

pub returns-clause-commands : goal.returns-clause-commands
returns-clause-commands c = commands_law
