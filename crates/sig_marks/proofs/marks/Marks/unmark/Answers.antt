use Rattle.std.proofs.Common.{ap, ◌∙◌}
use Rattle.sig_marks.specs.Tables.{MarkTable, without_mark}
use Rattle.sig_marks.specs.Sets.{table_of}
use Rattle.sig_marks.proofs.Kept.{taken_table}
use Rattle.sig_marks.proofs.marks.Marks.unmark.Goals as goal

pub returns : goal.returns
returns c =
    taken_table c.self.inside.dependants.entries c.self.inside.marked.entries c.unmark_one.new.marked.entries c.self.inside.fresh.items c.number.result c.unmark_one.ensures.stands c.unmark_one.ensures.marked
    ∙ ap (without_mark (table_of c.self.inside.dependants.entries c.self.inside.marked.entries c.self.inside.fresh.items)) c.number.ensures ∙ ap (λ (t : MarkTable). without_mark t c.args.id) c.self.view_is
