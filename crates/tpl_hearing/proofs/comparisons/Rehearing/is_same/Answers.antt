use Rattle.tpl_hearing.proofs.Compared.{as_before, known_compared}
use Rattle.tpl_hearing.proofs.comparisons.Rehearing.is_same.Goals as goal

pub returns-in-Some : goal.returns-in-Some
returns-in-Some c = λ e.
    as_before c.args.before.now c.args.self.now.heard c.args.id c.in-Some.same e
    (known_compared c.args.before.now c.args.self.now.heard c.args.self.now.compared c.args.place c.args.id c.in-Some.same c.requires c.in-Some.ensures)

pub returns-in-Some-known : goal.returns-in-Some-known
returns-in-Some-known c = λ e. as_before c.args.before.now c.args.self.now.heard c.args.id c.in-Some-known.same e c.in-Some-known.ensures.same
