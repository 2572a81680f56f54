use Rattle.std.proofs.Common.{refl}
use Rattle.live_report.proofs.Sums.{some_entries}
use Rattle.live_report.proofs.counters.with_entries.Goals as goal

pub returns-clause-many : goal.returns-clause-many
returns-clause-many c = some_entries c.args.counts _ _ _ c.args.entries.now c.told_in-runs.ensures.runs c.told_in-runs.ensures.ops refl
