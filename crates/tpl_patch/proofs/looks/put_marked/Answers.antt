use Rattle.std.proofs.Common.{◌++◌, sym, ap, ◌∙◌, map}
use Rattle.page_model.specs.Forest.{label_in}
use Rattle.page_model.specs.Labels.{Root}
use Rattle.page_ops.specs.Ops.{op_of}
use Rattle.tpl_model.specs.NextPage.KeptNodes.{told_on}
use Rattle.tpl_patch.proofs.Said.{no_root}
use Rattle.tpl_model.specs.ShownNodes.Shapes.{look_at}
use Rattle.tpl_patch.proofs.looks.put_marked.Goals as goal

pub returns-in-None : goal.returns-in-None
returns-in-None c =
    let k = label_in Root c.args.mark.now.number c.args.tree.now in
    no_root c.args.mark.now.number k (map op_of c.args.ops.now.items)
    ∙ ap (λ z. map op_of c.args.ops.now.items ++ told_on c.args.mark.now.number k (look_at z)) (sym c.in-None.is)

pub returns-in_ok-put_look-in-Some : goal.returns-in_ok-put_look-in-Some
returns-in_ok-put_look-in-Some c =
    let k = label_in Root c.args.mark.now.number c.args.tree.now in
    c.in_ok-put_look-in-Some.ensures
    ∙ ap (λ z. map op_of c.args.ops.now.items ++ told_on c.args.mark.now.number k (look_at z)) (sym c.in-Some.is)
