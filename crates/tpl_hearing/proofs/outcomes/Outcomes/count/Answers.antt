use Rattle.std.proofs.Common.{length, nat_eq, sym, ap, subst, arith, ◌∙◌}
use Rattle.std.specs.List.{IsDistinct}
use Rattle.std.specs.Map.{keys_of}
use Rattle.tpl_hearing.specs.Heard.{Outcomes}
use Rattle.tpl_hearing.proofs.Paired.{count_paired, once_paired}
use Rattle.tpl_hearing.proofs.outcomes.Outcomes.count.Goals as goal

pub returns-clause-count : goal.returns-clause-count
returns-clause-count c =
    let long = ap length (sym c.self.view_is) ∙ count_paired c.self.inside.names c.self.inside.outcomes.items c.self.invariant in
    let count = c.len.ensures in omega (arith, long, count)

pub returns-clause-once : goal.returns-clause-once
returns-clause-once c =
    subst (λ (h : Outcomes). IsDistinct nat_eq (keys_of h)) c.self.view_is
    (once_paired c.self.inside.names c.self.inside.outcomes.items c.count-count.ensures.once)
