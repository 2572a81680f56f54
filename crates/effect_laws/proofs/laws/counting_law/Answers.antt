use Rattle.effect_laws.proofs.Preservation.{all_keep_counts, flushes_keep_counts}
use Rattle.effect_laws.proofs.laws.counting_law.Goals as goal

pub returns-clause-acts : goal.returns-clause-acts
returns-clause-acts c = all_keep_counts

pub returns-clause-flushes : goal.returns-clause-flushes
returns-clause-flushes c = flushes_keep_counts
