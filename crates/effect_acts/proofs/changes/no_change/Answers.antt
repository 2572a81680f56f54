use Rattle.signal_model.specs.Recipes.{host}
use Rattle.sig_nodes.specs.Computations.{recipe_made}
use Rattle.effect_acts.proofs.changes.no_change.Goals as goal

pub returns : goal.returns
returns c = record { target = c.of.ensures; recipe = λ i. recipe_made (host 0) (c.new.ensures.items i) }
