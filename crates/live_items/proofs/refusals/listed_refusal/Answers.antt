use Rattle.std.proofs.Common.{◌∙◌, sym, ap, map}
use Rattle.effect_world.specs.Wholes.{whole_of}
use Rattle.live_model.specs.Names.{first_refusal}
use Rattle.live_uses.specs.Views.{use_of}
use Rattle.live_items.proofs.Refused.{first_of, last_of}
use Rattle.live_items.proofs.refusals.listed_refusal.Goals as goal

pub returns-in-Some : goal.returns-in-Some
returns-in-Some c = λ asked.
    let m = c.args.machine.now in
    let w = whole_of asked m.world in
    let first = c.in_ok-refusal.ensures asked ∙ ap (λ us. first_refusal w m.names (map use_of us)) c.deref.ensures.value
    ∙ ap (first_refusal w m.names) c.in_ok-uses.ensures in
    first_of _ _ c.in-Some.refusal (sym c.in-Some.is ∙ first)

pub returns : goal.returns
returns c = λ asked.
    let m = c.args.machine.now in
    let w = whole_of asked m.world in
    let first = c.in_ok-refusal.ensures asked ∙ ap (λ us. first_refusal w m.names (map use_of us)) c.deref.ensures.value
    ∙ ap (first_refusal w m.names) c.in_ok-uses.ensures in
    last_of _ _ c.in_ok-refusal-2.refusal (sym first ∙ c.in_default.is) (c.in_ok-refusal-2.ensures asked)
