use Rattle.std.proofs.Common.{false, ap, ◌∙◌}
use Rattle.sig_computed.specs.Steps.{GoesOn}
use Rattle.sig_computed.proofs.Leaves.{decided_moved, decided_still}
use Rattle.sig_computed.proofs.turns.go_on.Goals as goal

pub returns-then-moved-clause-turn : goal.returns-then-moved-clause-turn
returns-then-moved-clause-turn c = ap GoesOn c.begin_run.ensures.phase ∙ decided_moved false c.args.moved c.args.place c.if-moved.true

pub returns-clause-turn : goal.returns-clause-turn
returns-clause-turn c = decided_still false c.args.moved c.args.place c.if-moved.false
