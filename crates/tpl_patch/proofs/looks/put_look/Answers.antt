use Rattle.std.proofs.Common.{◌++◌, sym, ap, ◌∙◌, map}
use Rattle.page_model.specs.Forest.{label_in}
use Rattle.page_model.specs.Labels as label
use Rattle.page_model.specs.Labels.{Root}
use Rattle.page_ops.specs.Ops.{op_of}
use Rattle.tpl_model.specs.NextPage.KeptNodes.{told_on}
use Rattle.tpl_model.specs.ShownNodes.Shapes.{look_of}
use Rattle.tpl_patch.proofs.looks.put_look.Goals as goal

pub returns-in_ok-put_text-in-Text : goal.returns-in_ok-put_text-in-Text
returns-in_ok-put_text-in-Text c =
    let k = label_in Root c.args.number c.args.tree.now in
    c.in_ok-put_text-in-Text.ensures ∙ ap (λ z. map op_of c.args.ops.now.items ++ told_on c.args.number k (look_of z)) (sym c.in-Text.is)

pub returns-in_ok-put_attributes-in-Element : goal.returns-in_ok-put_attributes-in-Element
returns-in_ok-put_attributes-in-Element c =
    let k = label_in Root c.args.number c.args.tree.now in
    let name = c.in-Element.field-0 in
    c.in_ok-put_attributes-in-Element.ensures name
    ∙ (ap (λ z. map op_of c.args.ops.now.items ++ told_on c.args.number k (label.Element name z)) c.deref.ensures.value
    ∙ ap (λ z. map op_of c.args.ops.now.items ++ told_on c.args.number k (look_of z)) (sym c.in-Element.is))
