use Rattle.std.proofs.Common.{◌∙◌, ℕ, sym, ap}
use Rattle.event_model.specs.declared.limits.TheConstants.{MOST_HANDLERS}
use Rattle.live_entries.specs.declared.refusal.LimitWord.TheVariants as limit
use Rattle.live_model.specs.Machine.{one_too_many}
use Rattle.live_core.proofs.Shared.{handlers_count}
use Rattle.live_items.proofs.refusals.over_limit.Goals as goal

pub returns-in-On : goal.returns-in-On
returns-in-On c = λ asked.
    let m = c.args.machine.now in
    rw c.in-On.is (c.one_too_many-in-On.ensures
    ∙ ap (λ (n : ℕ). one_too_many MOST_HANDLERS n limit.Handlers) (c.count.ensures ∙ sym (handlers_count m.handlers m.scripts.items)))
