use Rattle.std.proofs.Common.{◌≡◌, ◌+◌, suc, arith, sym, ap, ◌∙◌, ◌++◌, map}
use Rattle.page_model.specs.Edits.{line_edits}
use Rattle.page_model.specs.Forest.{label_in}
use Rattle.page_model.specs.Labels.{Root}
use Rattle.page_ops.specs.Ops.{op_of}
use Rattle.page_tree.specs.Queries.{attribute_value}
use Rattle.tpl_patch.proofs.Said.{set_line, unset_line}
use Rattle.tpl_patch.proofs.looks.put_line.Goals as goal

pub returns-in_ok-put_unset-in-None-clause-is : goal.returns-in_ok-put_unset-in-None-clause-is
returns-in_ok-put_unset-in-None-clause-is c = λ later.
    let old = attribute_value c.args.line.now.0 (label_in Root c.args.number c.args.tree.now) in
    unset_line c.args.number c.args.place c.args.line.now.0 old later (map op_of c.args.ops.now.items) (map op_of c.put_unset.new.ops.items) c.in_ok-put_unset-in-None.ensures
    ∙ ap (λ z. map op_of c.args.ops.now.items ++ line_edits c.args.number c.args.place c.args.line.now.0 old z later) (sym c.in-None.is)

pub returns-in_ok-put_set-in-Some-clause-is : goal.returns-in_ok-put_set-in-Some-clause-is
returns-in_ok-put_set-in-Some-clause-is c = λ later.
    let old = attribute_value c.args.line.now.0 (label_in Root c.args.number c.args.tree.now) in
    let next : c.args.place + 1 ≡ suc c.args.place = omega arith in
    set_line c.args.number c.args.place (c.args.place + 1) c.args.line.now.0 old c.in-Some.value later (map op_of c.args.ops.now.items) (map op_of c.put_set.new.ops.items)
    next c.in_ok-put_set-in-Some.ensures
    ∙ ap (λ z. map op_of c.args.ops.now.items ++ line_edits c.args.number c.args.place c.args.line.now.0 old z later) (sym c.in-Some.is)
