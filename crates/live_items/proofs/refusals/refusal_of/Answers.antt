use Rattle.std.proofs.Common.{sym, ◌∙◌}
use Rattle.live_items.proofs.Refused.{first_of, second_of, third_of}
use Rattle.live_items.proofs.refusals.refusal_of.Goals as goal

pub returns-in-Some : goal.returns-in-Some
returns-in-Some g c = first_of _ _ c.in-Some.refusal (sym c.in-Some.is ∙ c.batch_refusal.ensures)

pub returns-in-Some-2 : goal.returns-in-Some-2
returns-in-Some-2 g c =
    second_of _ _ _ c.in-Some-2.refusal (sym c.batch_refusal.ensures ∙ c.in_default.is) (sym c.in-Some-2.is ∙ c.in_ok-refusal.ensures _)

pub returns : goal.returns
returns g c =
    third_of _ _ _ c.in_ok-refusal-2.refusal (sym c.batch_refusal.ensures ∙ c.in_default.is)
    (sym (c.in_ok-refusal.ensures _) ∙ c.in_default-2.is) c.in_ok-refusal-2.ensures
