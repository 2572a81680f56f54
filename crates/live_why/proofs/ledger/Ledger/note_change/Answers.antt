use Rattle.std.proofs.Common.{◌==◌, ◌+◌, cond, ap, ◌∙◌, arith}
use Rattle.live_why.specs.Marking.{marks_at}
use Rattle.live_why.proofs.Marks.{right_changed}
use Rattle.live_why.proofs.ledger.Ledger.note_change.Goals as goal

pub returns-clause-right : goal.returns-clause-right
returns-clause-right c =
    right_changed c.args.self.now.facts.items c.put.new.self.facts.items c.args.self.now.causes.items c.put.new.self.causes.items
    c.args.self.now.index.marks.entries c.put.new.self.index.marks.entries c.args.id c.args.how (c.len-number.result + 1) c.at.result c.requires
    (omega arith) c.at.ensures c.in_ok-put.ensures.facts c.in_ok-put.ensures.causes
    (λ n. c.in_ok-put.ensures.put n
    ∙ ap (λ m. cond (n == c.args.id) m (marks_at c.args.self.now.index.marks.entries n)) c.marks_changed-marks.ensures)
