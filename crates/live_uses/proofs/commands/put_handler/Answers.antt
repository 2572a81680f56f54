use Rattle.std.proofs.Common.{◌∷◌, ◌++◌, List, append_assoc, map, ap, ◌∙◌}
use Rattle.live_model.specs.Names.{Use}
use Rattle.live_model.specs.Uses.{uses_of_body}
use Rattle.live_model.specs.declared.names.Kind.TheVariants as kind
use Rattle.live_model.specs.declared.names.Need.TheVariants as need
use Rattle.live_uses.specs.Views.{use_of}
use Rattle.live_uses.proofs.commands.put_handler.Goals as goal

pub returns : goal.returns
returns c =
    let before = map use_of c.args.uses.now.items in
    c.in_ok-put_all.ensures
    ∙ (λ i. c.in_ok-put_use.ensures i ++ map use_of (c.deref.ensures.value i))
    ∙ append_assoc before _ (map use_of c.in_ok-inside.inside.items)
    ∙ ap (λ (us : List Use). before ++ (c.args.template.now, need.Of kind.Template) ∷ us) (c.in_ok-inside.ensures ∙ ap uses_of_body c.as_body.ensures)
