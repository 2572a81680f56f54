use Rattle.tpl_hearing.proofs.Compared.{known_compared}
use Rattle.tpl_hearing.proofs.comparisons.Rehearing.known.Goals as goal

pub returns-in-Some-known-clause-same : goal.returns-in-Some-known-clause-same
returns-in-Some-known-clause-same c =
    known_compared c.args.before.now c.args.self.now.heard c.args.self.now.compared c.in-Some.place c.args.id c.in-Some-known.same c.requires
    c.in-Some-known.ensures

pub returns-in-None-clause-same : goal.returns-in-None-clause-same
returns-in-None-clause-same c = record { outcome = c.in-Some.outcome.now; is = c.in-Some.ensures.some; was = c.had.ensures }
