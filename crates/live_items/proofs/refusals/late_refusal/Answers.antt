use Rattle.std.proofs.Common.{◌∙◌, Bool, None, Some, cond, sym, ap}
use Rattle.live_entries.specs.declared.refusal.Refusal.TheVariants as refusal
use Rattle.live_items.proofs.refusals.late_refusal.Goals as goal

pub returns-then-is_late : goal.returns-then-is_late
returns-then-is_late c = λ asked. sym (ap (λ (b : Bool). cond b (Some refusal.Late) None) (sym (c.is_late.ensures asked) ∙ c.if-is_late.true))

pub returns-else-is_late : goal.returns-else-is_late
returns-else-is_late c = λ asked. sym (ap (λ (b : Bool). cond b (Some refusal.Late) None) (sym (c.is_late.ensures asked) ∙ c.if-is_late.false))
