use Rattle.std.proofs.Common.{arith, sym, ◌∙◌}
use Rattle.page_tree.proofs.Lists.{others_at, others_none}
use Rattle.page_tree.proofs.table.take_attribute.Goals as goal

pub remove-requires : goal.remove-requires
remove-requires c =
    let h = others_at c.args.name.now c.args.attributes.now.items c.in-Some.place (sym (rw c.deref.ensures.value at c.in-Some.ensures)) in
    omega (arith, h.0, c.args.attributes.now.ok.0)

pub returns-in-Some-clause-items : goal.returns-in-Some-clause-items
returns-in-Some-clause-items c =
    let h = others_at c.args.name.now c.args.attributes.now.items c.in-Some.place (sym (rw c.deref.ensures.value at c.in-Some.ensures)) in
    c.remove.ensures.items ∙ h.1

pub returns-in_default-clause-items : goal.returns-in_default-clause-items
returns-in_default-clause-items c = others_none c.args.name.now c.args.attributes.now.items (sym (rw c.deref.ensures.value at c.in_default.ensures))
