use Rattle.std.proofs.Common.{ap, ◌∙◌}
use Rattle.effect_world.specs.Wholes.{whole_of}
use Rattle.live_model.specs.Names.{refusal_at}
use Rattle.live_uses.specs.Views.{use_of}
use Rattle.live_names.proofs.names.Names.refusal_of.Goals as goal

pub returns : goal.returns
returns c = λ asked. c.in_ok-refusal.ensures asked ∙ ap (refusal_at (whole_of asked c.args.world.now) (use_of c.args.used.now)) c.meaning_of.ensures
