-- What a job prints of a script's items, by what they tell.
use Rattle.std.specs.Prelude.{◌+◌, ℕ, true, false, List, [], flat_map}
use Rattle.bench_workload.specs.Summary.{summary_text}
use Rattle.live_cmd.specs.declared.command.Item.{Item}
use Rattle.live_entries.specs.declared.entry.Entry.{Entry}
use Rattle.live_entries.specs.Printed.{printed}
use Rattle.live_words.specs.declared.jobs.ScriptJob.{ScriptJob}
use Rattle.live_words.specs.declared.jobs.ScriptJob.TheVariants as job
use Rattle.wire_model.specs.Notes.{frames}
use Rattle.wire_model.specs.Wired.{wired, wired_from}
use Rattle.live_report.specs.Counts.{added, counts_of, page_after}
use Rattle.live_report.specs.declared.report.Report.{Report}
use Rattle.live_report.specs.declared.report.Report.TheVariants as report

-- what a job prints of these items, which tell these entries: the lines but those of a trace, all lines, the five lines of the summary,
-- or the frames of what they tell of pages
abbrev pub output_of : ScriptJob → List Item → List Entry → List ℕ
output_of job.Run is es = flat_map (printed false) es
output_of job.Trace is es = flat_map (printed true) es
output_of (job.Bench n) is es = summary_text n (counts_of is es) (page_after [] es)
output_of job.Wire is es = frames (wired es)

-- what a report still prints of items to come, which tell these entries
unfoldable pub still : Report → List Item → List Entry → List ℕ
still (report.Lines trace) is es = flat_map (printed trace) es
still (report.Summary n counts page) is es = summary_text n (added counts (counts_of is es)) (page_after page es)
still (report.Frames told) is es = frames (wired_from told es)

-- how much was counted
unfoldable pub counted : Report → ℕ
counted (report.Lines trace) = 0
counted (report.Summary n counts page) = counts.commands + (counts.runs + counts.ops)
counted (report.Frames told) = 0
