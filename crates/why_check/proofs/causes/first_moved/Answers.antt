use Rattle.std.proofs.Common.{◌∙◌}
use Rattle.live_why.specs.Views.{past}
use Rattle.live_why.proofs.SharedLinks.{first_moved_on}
use Rattle.why_check.proofs.causes.first_moved.Goals as goal

pub loop-read-preserved : goal.loop-read-preserved
loop-read-preserved c =
    first_moved_on c.args.since c.loop-read.read-index c.read-item.result c.last_hit-moved.result c.args.reads.now (past c.args.facts.now c.args.before)
    c.loop-read-test.true c.read-item.is c.if-moved-gt0.false c.last_hit-moved.ensures.hit
    ∙ c.loop-read.invariant
