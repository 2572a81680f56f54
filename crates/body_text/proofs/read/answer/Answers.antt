use Rattle.script_lines.specs.Views.{line_of}
use Rattle.std.proofs.Common.{map}
use Rattle.body_text.specs.Verdicts.{faulty}
use Rattle.body_text.proofs.Uniqueness.{is_answer, is_unended}
use Rattle.body_text.proofs.read.answer.Goals as goal

pub returns-in-Faulty : goal.returns-in-Faulty
returns-in-Faulty c = rw c.syntax.ensures (faulty c.in-Faulty.number (rw c.in-Faulty.is at c.in_ok-number.ensures))

pub returns-in-Unended : goal.returns-in-Unended
returns-in-Unended c = rw c.syntax-in-Unended.ensures (is_unended c.args.allowance (map line_of c.args.lines.now) _ (rw c.in-Unended.is at c.in_ok-number.ensures) c.last_number.ensures)

pub returns-in-Said : goal.returns-in-Said
returns-in-Said c = is_answer c.args.allowance (map line_of c.args.lines.now) c.in-Said.said.items (rw c.in-Said.is at c.in_ok-number.ensures) c.judged.result c.judged.ensures
