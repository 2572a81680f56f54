use Rattle.tpl_hearing.proofs.comparisons.hear_expected.Goals as goal

pub returns-clause-stands : goal.returns-clause-stands
returns-clause-stands c = λ e. record {
  outcome = c.in-Some.was.now;
  was = c.in-Some.ensures;
  new = c.in_ok-next.ensures.new e;
  stands = c.stands_as.ensures.stands c.if-not-stands_as.false;
  all = c.in_ok-next.ensures.heard e;
}

pub returns-clause-compared : goal.returns-clause-compared
returns-clause-compared c = λ all. c.in_ok-next.ensures.compared c.args.before.now all c.in-Some.ensures
