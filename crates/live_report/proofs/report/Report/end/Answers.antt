use Rattle.live_report.proofs.Output.{summary_ended}
use Rattle.live_report.proofs.report.Report.end.Goals as goal

pub returns-in-Summary : goal.returns-in-Summary
returns-in-Summary c =
    rw c.in-Summary.is (summary_ended c.in-Summary.rounds c.in-Summary.counts c.in-Summary.page _ _ (rw c.as_slice.ensures at c.in_ok-put_summary-in-Summary.ensures))
