use Rattle.std.proofs.Common.{◌∙◌, ap, map}
use Rattle.effect_world.specs.Wholes.{whole_of}
use Rattle.live_model.specs.Names.{first_within}
use Rattle.live_model.specs.Uses.{uses_of_body}
use Rattle.live_uses.specs.Views.{use_of}
use Rattle.live_items.proofs.refusals.within_refusal.Goals as goal

pub returns : goal.returns
returns c = λ asked.
    let m = c.args.machine.now in
    let w = whole_of asked m.world in
    c.in_ok-refusal.ensures asked ∙ ap (λ us. first_within w m.names c.args.name.now (map use_of us)) c.deref.ensures.value
    ∙ ap (first_within w m.names c.args.name.now) (c.in_ok-uses.ensures ∙ ap uses_of_body c.as_body.ensures)
