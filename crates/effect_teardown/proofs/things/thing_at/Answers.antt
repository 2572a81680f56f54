use Rattle.std.proofs.Common.{ap, ◌∙◌}
use Rattle.effect_model.specs.Owners.{the_owner}
use Rattle.effect_tables.specs.Things.{named_thing}
use Rattle.effect_teardown.proofs.things.thing_at.Goals as goal

pub returns-in-Some : goal.returns-in-Some
returns-in-Some c = ap named_thing c.in-Some.ensures

pub returns-in-None : goal.returns-in-None
returns-in-None c = ap the_owner c.of.ensures ∙ ap named_thing c.in-None.ensures
