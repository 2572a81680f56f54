use Rattle.std.proofs.Common.{subst}
use Rattle.std.specs.List.{AllByRecursion}
use Rattle.tpl_hearing.specs.Heard.{HasRows, HaveRows}
use Rattle.tpl_hearing.proofs.Paired.{rows_paired}
use Rattle.tpl_hearing.proofs.outcomes.Outcomes.good.Goals as goal

pub returns : goal.returns
returns c =
    subst HaveRows c.self.view_is (rows_paired c.self.inside.names c.self.inside.outcomes.items
    (subst (AllByRecursion HasRows) c.deref.ensures.value c.find_all.ensures))
