use Rattle.std.proofs.Common.{sym, subst}
use Rattle.tpl_hearing.specs.HeardAgain.{AllCompared}
use Rattle.tpl_hearing.proofs.comparisons.Rehearing.front.Goals as goal

pub returns-clause-compared : goal.returns-clause-compared
returns-clause-compared c =
    subst (λ h. AllCompared c.args.before.now h c.in_ok-compared.compared) (sym c.in_ok-heard.ensures) c.in_ok-compared.ensures
