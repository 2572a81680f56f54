use Rattle.std.proofs.Common.{refl}
use Rattle.live_report.proofs.Sums.{counts_none}
use Rattle.live_report.proofs.counters.no_counts.Goals as goal

pub returns-clause-many : goal.returns-clause-many
returns-clause-many c = counts_none _ refl refl refl
