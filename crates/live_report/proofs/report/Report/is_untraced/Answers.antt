use Rattle.live_report.proofs.Output.{lines_items, lines_untraced}
use Rattle.live_report.proofs.report.Report.is_untraced.Goals as goal

pub returns-in-Lines-clause-items : goal.returns-in-Lines-clause-items
returns-in-Lines-clause-items c = λ _. rw c.in-Lines.is (lines_items c.in-Lines.trace)

pub returns-in-Lines-clause-runs : goal.returns-in-Lines-clause-runs
returns-in-Lines-clause-runs c = rw c.in-Lines.is (lines_untraced c.in-Lines.trace)
