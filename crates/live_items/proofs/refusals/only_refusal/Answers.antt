use Rattle.std.proofs.Common.{◌∙◌}
use Rattle.live_items.proofs.Refused.{alone}
use Rattle.live_items.proofs.refusals.only_refusal.Goals as goal

pub returns : goal.returns
returns c = λ asked. c.in_ok-refusal.ensures asked ∙ alone _
