-- The rewiring of a place.
use Rattle.std.specs.Prelude.{◌≡◌}
use Rattle.effect_model.specs.Acts.{rewire_signal}
use Rattle.effect_model.specs.Worlds.{World}
use Rattle.sig_untrack.specs.Links.{Rewired}
use Rattle.sig_nodes.specs.Answers.{expression_of}
use Rattle.sig_nodes.specs.Computations.{recipe_made}
use Rattle.effect_acts.specs.declared.changes.Change.{Change}

-- this is the rewiring that is meant
pub record IsMeant (x : Change) (r : Rewired) : Type 0 where
  pub target : x.id ≡ r.target
  pub recipe : recipe_made (expression_of x.recipe) x.slots.items ≡ r.recipe

-- a computed gets the recipe that is meant
abbrev pub rewire_meant : Rewired → World → World
rewire_meant r = rewire_signal r.target r.recipe
