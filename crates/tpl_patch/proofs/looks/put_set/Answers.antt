use Rattle.std.proofs.Common.{sym, ap, ◌∙◌, map}
use Rattle.page_model.specs.Edits.{same_value}
use Rattle.page_model.specs.Forest.{label_in}
use Rattle.page_model.specs.Labels.{Root}
use Rattle.page_model.specs.Replay.{OpAttr}
use Rattle.page_ops.specs.Ops.{op_of}
use Rattle.page_tree.specs.Queries.{attribute_value}
use Rattle.tpl_patch.proofs.Said.{no_set, one_set, pushed}
use Rattle.tpl_patch.proofs.looks.put_set.Goals as goal

pub returns-then-is_value : goal.returns-then-is_value
returns-then-is_value c =
    let old = attribute_value c.args.name.now (label_in Root c.args.number c.args.tree.now) in
    no_set c.args.number c.args.place c.args.name.now old c.args.value.now (map op_of c.args.ops.now.items)
    (sym (c.is_value.ensures ∙ ap (λ o. same_value o c.args.value.now) c.attr_value.ensures) ∙ c.if-is_value.true)

pub returns : goal.returns
returns c =
    let old = attribute_value c.args.name.now (label_in Root c.args.number c.args.tree.now) in
    one_set c.args.number c.args.place c.args.name.now old c.args.value.now (map op_of c.args.ops.now.items) (map op_of c.push.new.self.items)
    (sym (c.is_value.ensures ∙ ap (λ o. same_value o c.args.value.now) c.attr_value.ensures) ∙ c.if-is_value.false)
    (pushed c.args.ops.now.items c.push.new.self.items _ (OpAttr c.args.number c.args.place c.args.name.now c.args.value.now) c.in_ok-push.ensures.items
    (ap (λ z. OpAttr c.args.number c.args.place z c.in_ok-value.value) c.in_ok-name.ensures ∙ ap (OpAttr c.args.number c.args.place c.args.name.now) c.in_ok-value.ensures))
