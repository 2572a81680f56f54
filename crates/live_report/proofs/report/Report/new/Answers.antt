use Rattle.std.proofs.Common.{◌∙◌}
use Rattle.live_report.proofs.Output.{summary_begun}
use Rattle.live_report.proofs.report.Report.new.Goals as goal

pub returns-in_ok-of-in-Bench-clause-prints : goal.returns-in_ok-of-in-Bench-clause-prints
returns-in_ok-of-in-Bench-clause-prints c = rw c.in-Bench.is (summary_begun c.in-Bench.rounds _ _ c.no_counts.ensures.many (c.in_ok-of-in-Bench.ensures ∙ c.new.ensures.items))
