use Rattle.std.proofs.Common.{map, sym, ap, ◌∙◌}
use Rattle.effect_model.specs.Worlds.{effect_at}
use Rattle.effect_tables.specs.Placed.{effect_of}
use Rattle.effect_turns.proofs.near.effect_near.Goals as goal

pub returns-in-Some-clause-some : goal.returns-in-Some-clause-some
returns-in-Some-clause-some c = ap (λ xs. effect_at c.args.id (map effect_of xs)) (sym c.deref.ensures.value) ∙ c.in-Some.ensures.lives
