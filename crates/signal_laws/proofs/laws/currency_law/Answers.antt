use Rattle.signal_laws.proofs.RecordedRuns.{currency_law}
use Rattle.signal_laws.proofs.laws.currency_law.Goals as goal

pub returns : goal.returns
returns c = currency_law
