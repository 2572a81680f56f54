use Rattle.std.proofs.Common.{ap, ◌∙◌}
use Rattle.live_why.specs.Marking.{marks_at}
use Rattle.live_why.proofs.Marks.{put_marks}
use Rattle.live_why.proofs.index.Index.put.Goals as goal

pub returns-clause-put : goal.returns-clause-put
returns-clause-put c = λ n.
    ap (λ es. marks_at es n) c.in_ok-insert.ensures.entries ∙ put_marks c.args.self.now.marks.entries c.args.id c.args.marks n
