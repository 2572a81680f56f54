use Rattle.effect_laws.proofs.Acts.{all_only_tell}
use Rattle.effect_laws.proofs.Events.{flushes_only_tell, turns_only_tell}
use Rattle.effect_laws.proofs.laws.telling_law.Goals as goal

pub returns-clause-acts : goal.returns-clause-acts
returns-clause-acts c = all_only_tell

pub returns-clause-turns : goal.returns-clause-turns
returns-clause-turns c = turns_only_tell

pub returns-clause-flushes : goal.returns-clause-flushes
returns-clause-flushes c = flushes_only_tell
