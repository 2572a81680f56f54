-- Which thing each row of the store is.
use Rattle.std.specs.Prelude.{ℕ, nat_eq, Option, Some, None}
use Rattle.indexmap.specs.IndexMap.{IndexMap, get}
use Rattle.effect_model.specs.Owners as things
use Rattle.effect_model.specs.Owners.{the_owner}
use Rattle.effect_tables.specs.declared.thing.Thing.{Thing}
use Rattle.effect_tables.specs.Bodies.{thing_of}

-- what is noted of a row
abbrev pub noted : {S : Type 0} → IndexMap ℕ Thing S → ℕ → Option Thing
noted m k = get nat_eq m k

-- a thing that is noted; else owner 0
abbrev pub named_thing : Option Thing → things.Thing
named_thing None = the_owner 0
named_thing (Some t) = thing_of t

-- the thing of a row
abbrev pub named_at : (ℕ → Option Thing) → ℕ → things.Thing
named_at f k = named_thing (f k)
