use Rattle.live_report.proofs.Output.{frames_entries, lines_entries, summary_behind}
use Rattle.live_report.proofs.report.Report.take_told.Goals as goal

pub returns-in_ok-put_entries-in-Lines-clause-prints : goal.returns-in_ok-put_entries-in-Lines-clause-prints
returns-in_ok-put_entries-in-Lines-clause-prints c = rw c.in-Lines.is (lines_entries c.in-Lines.trace _ _ c.args.entries.now c.in_ok-put_entries-in-Lines.ensures.text)

pub returns-in_ok-turn_page-in-Summary-clause-prints : goal.returns-in_ok-turn_page-in-Summary-clause-prints
returns-in_ok-turn_page-in-Summary-clause-prints c =
    rw c.in-Summary.is (summary_behind _ _ _ _ _ _ _ c.args.entries.now c.in_ok-make_lines-in-Summary.ensures.same c.with_entries.ensures.many c.in_ok-turn_page-in-Summary.ensures)

pub returns-in_ok-put_entries-in-Frames-clause-prints : goal.returns-in_ok-put_entries-in-Frames-clause-prints
returns-in_ok-put_entries-in-Frames-clause-prints c =
    rw c.in-Frames.is (frames_entries _ _ _ _ c.args.entries.now c.in_ok-put_entries-in-Frames.ensures.notes c.in_ok-put_entries-in-Frames.ensures.told)
