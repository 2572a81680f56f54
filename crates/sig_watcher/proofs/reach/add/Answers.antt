use Rattle.std.proofs.Common.{◌==◌, sym, ◌∙◌}
use Rattle.sig_watcher.proofs.Closure.{adds_none, adds_one, one_there}
use Rattle.sig_watcher.proofs.reach.add.Goals as goal

pub returns-then-has-clause-adds : goal.returns-then-has-clause-adds
returns-then-has-clause-adds c = adds_none c.args.graph.now (λ m. m == c.args.name) c.args.reached.now

pub returns-then-has-clause-there : goal.returns-then-has-clause-there
returns-then-has-clause-there c = record { seat = c.seat-seat.result; holds = c.seat-seat.ensures.own; listed = sym c.has.ensures ∙ c.if-has.true }

pub returns-clause-adds : goal.returns-clause-adds
returns-clause-adds c = adds_one c.args.graph.now c.args.reached.now c.add.new.self c.seat-seat.result c.args.name c.add.ensures.seats c.seat-seat.ensures.own

pub returns-clause-there : goal.returns-clause-there
returns-clause-there c = one_there c.args.graph.now c.args.reached.now c.add.new.self c.seat-seat.result c.args.name c.add.ensures.seats c.seat-seat.ensures.own
