use Rattle.std.proofs.Common.{ap, ◌∙◌}
use Rattle.tpl_kept.specs.Heads.{places_in}
use Rattle.tpl_kept.proofs.making.builder.begin.Goals as goal

pub returns-clause-opens : goal.returns-clause-opens
returns-clause-opens g c = rw c.lent_row-here.ensures.is at c.in_ok-head.ensures.opens

pub returns-clause-places : goal.returns-clause-places
returns-clause-places g c = c.in_ok-places.ensures ∙ ap (places_in c.args.ends c.in_ok-head.head) c.lent_row-here.ensures.is
