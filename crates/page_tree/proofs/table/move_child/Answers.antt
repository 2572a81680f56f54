use Rattle.std.proofs.Common.{arith, ap, sym, ◌≡◌, ◌<◌, true, length}
use Rattle.page_model.specs.Edits.{listed}
use Rattle.page_tree.specs.Rows.{row_in, row_of}
use Rattle.page_tree.proofs.Lists.{length_taken}
use Rattle.page_tree.proofs.table.move_child.Goals as goal

pub put_child-requires-clause-room : goal.put_child-requires-clause-room
put_child-requires-clause-room c =
    let h : (listed c.args.id c.in-Some.node.now.children.items ≡ true) × (c.args.place < length c.in-Some.node.now.children.items) = c.requires (row_of c.in-Some.node.now) (ap row_in (sym c.in-Some.ensures.value)) in
    c.take_child.ensures.room h.0

pub put_child-requires-clause-within : goal.put_child-requires-clause-within
put_child-requires-clause-within c =
    let h : (listed c.args.id c.in-Some.node.now.children.items ≡ true) × (c.args.place < length c.in-Some.node.now.children.items) = c.requires (row_of c.in-Some.node.now) (ap row_in (sym c.in-Some.ensures.value)) in
    let l = length_taken c.args.id c.in-Some.node.now.children.items h.0 in
    let e = ap (length) c.take_child.ensures.items in
    omega (arith, h.1, l, e, c.take_child.new.children.ok.0)
