use Rattle.std.proofs.Common.{arith, ap, sym, ◌≤◌, length}
use Rattle.page_tree.specs.Rows.{row_in, row_of}
use Rattle.page_tree.proofs.table.add_child.Goals as goal

pub put_child-requires-clause-within : goal.put_child-requires-clause-within
put_child-requires-clause-within c =
    let h : c.args.place ≤ length c.in-Some.node.now.children.items = c.requires (row_of c.in-Some.node.now) (ap row_in (sym c.in-Some.ensures.value)) in
    omega (arith, h, c.reserve.ensures.len, c.in-Some.node.now.children.ok.0)
