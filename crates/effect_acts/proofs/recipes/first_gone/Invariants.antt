use Rattle.std.proofs.Common.{◌≡◌, drop}
use Rattle.effect_acts.specs.Acts.{first_gone}
use Rattle.effect_acts.proofs.recipes.first_gone.Given as goal

abbrev pub invariant-loop-id : goal.invariant-loop-id
invariant-loop-id l = first_gone l.world.graph.state.signals (drop l.id-index l.ids) ≡ first_gone l.world.graph.state.signals l.ids
