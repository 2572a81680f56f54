use Rattle.std.proofs.Common.{true, sym}
use Rattle.sig_marks.proofs.PushedMarks.{marked_replaced, marks_at, marks_there, stands_replaced}
use Rattle.std.specs.Prelude.{None}
use Rattle.sig_marks.proofs.propagation.mark_one.Goals as goal

pub returns-in-Some-clause-was : goal.returns-in-Some-clause-was
returns-in-Some-clause-was c = marks_there c.args.marked.now.entries c.args.id c.in-Some.mark (sym c.in-Some.ensures.before)

pub returns-in-Some-clause-marked : goal.returns-in-Some-clause-marked
returns-in-Some-clause-marked c = marked_replaced c.args.marked.now.entries c.replace.new.self.entries c.args.id c.in-Some.ensures.entries

pub returns-in-Some-clause-stands : goal.returns-in-Some-clause-stands
returns-in-Some-clause-stands c = stands_replaced c.args.marked.now.entries c.replace.new.self.entries c.args.id true c.in-Some.ensures.entries

pub returns-in-None-clause-was : goal.returns-in-None-clause-was
returns-in-None-clause-was c = sym (marks_at c.args.marked.now.entries c.args.id None c.requires (sym c.in-None.ensures.before))

pub returns-in-None-clause-marked : goal.returns-in-None-clause-marked
returns-in-None-clause-marked c = marked_replaced c.args.marked.now.entries c.replace.new.self.entries c.args.id c.in-None.ensures.entries

pub returns-in-None-clause-stands : goal.returns-in-None-clause-stands
returns-in-None-clause-stands c = stands_replaced c.args.marked.now.entries c.replace.new.self.entries c.args.id true c.in-None.ensures.entries
