use Rattle.std.proofs.Common.{false}
use Rattle.sig_marks.proofs.PushedMarks.{marks_replaced, stands_replaced}
use Rattle.sig_marks.proofs.propagation.unmark_one.Goals as goal

pub returns-clause-marked : goal.returns-clause-marked
returns-clause-marked c = marks_replaced c.args.marked.now.entries c.replace-before.new.self.entries c.args.id false c.replace-before.ensures.entries

pub returns-clause-stands : goal.returns-clause-stands
returns-clause-stands c = stands_replaced c.args.marked.now.entries c.replace-before.new.self.entries c.args.id false c.replace-before.ensures.entries
