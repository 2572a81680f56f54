use Rattle.std.proofs.Common.{◌≤◌, ap, subst, ◌∙◌}
use Rattle.live_why.specs.declared.index.Marks.{Marks}
use Rattle.live_why.specs.Marking.{back}
use Rattle.live_why.proofs.Marks.{first_later}
use Rattle.live_why.proofs.ledger.Ledger.first_moved.Goals as goal

pub loop-read-preserved : goal.loop-read-preserved
loop-read-preserved c =
    first_later c.args.since c.loop-read.read-index c.read-item.result c.args.reads.now (back c.args.self.now.facts.items) c.loop-read-test.true
    c.read-item.is
    (subst (λ k. k ≤ c.args.since) (ap (λ (m : Marks). m.moved) (c.at-moved.ensures ∙ c.requires.marks c.read-item.result)) c.if-moved-since.false)
    ∙ c.loop-read.invariant
