use Rattle.mark_laws.proofs.AfterChange.{begin_marks_law, run_marks_law, stop_marks_law}
use Rattle.mark_laws.proofs.laws.evaluation_marks_law.Goals as goal

pub returns-clause-begin : goal.returns-clause-begin
returns-clause-begin c = begin_marks_law

pub returns-clause-run : goal.returns-clause-run
returns-clause-run c = run_marks_law

pub returns-clause-stop : goal.returns-clause-stop
returns-clause-stop c = stop_marks_law
