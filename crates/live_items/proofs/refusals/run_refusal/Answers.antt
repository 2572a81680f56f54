use Rattle.std.proofs.Common.{◌≡◌, ◌∙◌, Bool, true, false, cond, None, Some, sym, ap}
use Rattle.live_entries.specs.declared.refusal.Refusal.TheVariants as refusal
use Rattle.live_model.specs.Machine.{can_tell_why}
use Rattle.live_model.specs.Names.{number_of}
use Rattle.live_core.specs.Views.{plain_of}
use Rattle.live_items.proofs.refusals.run_refusal.Goals as goal

pub returns-then-can_tell_why : goal.returns-then-can_tell_why
returns-then-can_tell_why c = λ asked.
    let m = c.args.machine.now in
    let told : can_tell_why (plain_of asked m) (number_of m.names c.args.name.now) ≡ true =
    ap (can_tell_why (plain_of asked m)) (sym (c.of-computed.ensures ∙ c.number_of.ensures)) ∙ sym (c.can_tell_why.ensures asked) ∙ c.if-can_tell_why.true in
    sym (ap (λ (b : Bool). cond b None (Some (refusal.NoRun c.args.name.now))) told)

pub returns : goal.returns
returns c = λ asked.
    let m = c.args.machine.now in
    let untold : can_tell_why (plain_of asked m) (number_of m.names c.args.name.now) ≡ false =
    ap (can_tell_why (plain_of asked m)) (sym (c.of-computed.ensures ∙ c.number_of.ensures)) ∙ sym (c.can_tell_why.ensures asked) ∙ c.if-can_tell_why.false in
    ap (λ n. Some (refusal.NoRun n)) c.in_ok-copy.ensures ∙ sym (ap (λ (b : Bool). cond b None (Some (refusal.NoRun c.args.name.now))) untold)
