use Rattle.std.proofs.Common.{arith}
use Rattle.sig_seats.proofs.Trails.{popped_none, popped_some}
use Rattle.sig_seats.proofs.trail.Trail.leave.Goals as goal

pub returns-clause-some : goal.returns-clause-some
returns-clause-some c = popped_some c.pop.result c.args.self.now c.self.inside.ids.items c.pop.new.self.items c.self.view_is c.pop.ensures.items

pub returns-clause-none : goal.returns-clause-none
returns-clause-none c = popped_none c.pop.result c.args.self.now c.self.inside.ids.items _ _ c.self.view_is (omega arith) c.pop.ensures.cases
