use Rattle.std.proofs.Common.{ap, ◌∙◌}
use Rattle.sig_marks.specs.Tables.{MarkTable, marked_at}
use Rattle.sig_marks.specs.Sets.{marks_of}
use Rattle.sig_marks.proofs.marks.Marks.is_marked.Goals as goal

pub returns : goal.returns
returns c = c.is_marked_in.ensures ∙ ap (marked_at (marks_of c.self.inside.marked.entries)) c.number.ensures ∙ ap (λ (t : MarkTable). marked_at t.marked c.args.id) c.self.view_is
