use Rattle.std.proofs.Common.{◌∙◌, is_some, sym, ap}
use Rattle.live_items.proofs.Found.{some_mapped}
use Rattle.live_items.proofs.refusals.has_run.Goals as goal

pub returns : goal.returns
returns c = c.is_some.ensures ∙ sym (some_mapped (λ x. x.now) c.kept.result) ∙ ap is_some c.kept.ensures
