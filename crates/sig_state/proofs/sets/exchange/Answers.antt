use Rattle.std.proofs.Common.{refl}
use Rattle.sig_state.proofs.sets.exchange.Goals as goal

pub returns-clause-kept : goal.returns-clause-kept
returns-clause-kept g c = λ no. absurd (no c.replace.result refl)
