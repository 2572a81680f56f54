use Rattle.signal_laws.proofs.RecordedRuns.{scratch_runs_law}
use Rattle.signal_laws.proofs.laws.scratch_runs_law.Goals as goal

pub returns : goal.returns
returns c = scratch_runs_law
