use Rattle.effect_rows.proofs.Bodies.{idle_fits}
use Rattle.effect_rows.proofs.scripts.idle.Goals as goal

pub returns : goal.returns
returns c = idle_fits _ _ c.no_statements-body.ensures c.linked_to-links.ensures
