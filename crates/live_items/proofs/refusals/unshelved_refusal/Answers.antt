use Rattle.std.proofs.Common.{◌∙◌, sym, ap}
use Rattle.live_model.specs.Machine.{outside_refusal}
use Rattle.live_model.specs.Uses.{hosts_of_body}
use Rattle.live_items.proofs.Places.{states_count}
use Rattle.live_items.proofs.refusals.unshelved_refusal.Goals as goal

pub returns : goal.returns
returns g c = λ uses. c.in_ok-refusal.ensures ∙ ap (λ n. outside_refusal n (hosts_of_body c.args.body.now)) (c.len.ensures ∙ sym (states_count uses 0 _))
