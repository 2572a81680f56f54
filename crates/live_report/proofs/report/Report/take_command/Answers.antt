use Rattle.live_cmd.specs.declared.command.Item.TheVariants as item
use Rattle.live_report.proofs.Output.{summary_item}
use Rattle.live_report.proofs.report.Report.take_command.Goals as goal

pub returns-in-Summary-clause-prints : goal.returns-in-Summary-clause-prints
returns-in-Summary-clause-prints c = λ k. rw c.in-Summary.is (summary_item c.in-Summary.rounds c.in-Summary.counts _ c.in-Summary.page (item.Do k) (c.with_command.ensures.many k))
