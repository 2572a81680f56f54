use Rattle.std.proofs.Common.{sym, ap, ◌∙◌, nat_lt}
use Rattle.sig_marks.proofs.PushedMarks.{marks_none, marks_there}
use Rattle.sig_marks.proofs.propagation.is_marked_in.Goals as goal

pub returns-in-Some : goal.returns-in-Some
returns-in-Some c = marks_there c.args.marked.now.entries c.args.id c.in-Some.mark.now (sym c.in-Some.ensures)

pub returns-in-None : goal.returns-in-None
returns-in-None c = ap (nat_lt c.args.id) c.made.ensures ∙ marks_none c.args.marked.now.entries c.args.id (sym c.in-None.ensures)
