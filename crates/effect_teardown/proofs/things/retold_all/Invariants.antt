use Rattle.std.proofs.Common.{◌≡◌, map, take}
use Rattle.effect_tables.specs.Bodies.{undoings_of}
use Rattle.effect_tables.specs.Things.{noted}
use Rattle.effect_teardown.specs.Steps.{retold}
use Rattle.effect_teardown.proofs.things.retold_all.Given as goal

abbrev pub invariant-loop-step : goal.invariant-loop-step
invariant-loop-step l = undoings_of l.undoings.items ≡ map (retold (noted l.things)) (take l.step-index l.steps)
