use Rattle.std.proofs.Common.{ap, ◌∙◌}
use Rattle.effect_world.specs.Wholes.{whole_of}
use Rattle.live_model.specs.Names as plain
use Rattle.live_names.proofs.life.is_gone.Goals as goal

pub returns : goal.returns
returns c = λ asked. c.has_ended.ensures asked ∙ ap (plain.has_ended (whole_of asked c.args.world.now)) c.thing_of-thing.ensures
