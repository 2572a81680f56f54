use Rattle.signal_laws.proofs.RecordedRuns.{placed_runs_law}
use Rattle.signal_laws.proofs.laws.placed_runs_law.Goals as goal

pub returns : goal.returns
returns c = placed_runs_law
