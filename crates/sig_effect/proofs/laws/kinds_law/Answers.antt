use Rattle.sig_effect.proofs.SameKinds.{all_keep_kinds, flushes_keep_kinds}
use Rattle.sig_effect.proofs.laws.kinds_law.Goals as goal

pub returns-clause-acts : goal.returns-clause-acts
returns-clause-acts c = all_keep_kinds

pub returns-clause-flushes : goal.returns-clause-flushes
returns-clause-flushes c = flushes_keep_kinds
