use Rattle.std.proofs.Common.{arith, refl, sym, ap}
use Rattle.page_tree.specs.Rows.{look, row_in, row_of}
use Rattle.page_tree.proofs.Edits.{kept_some, kept_none}
use Rattle.page_tree.proofs.Queries.{read_count}
use Rattle.page_tree.proofs.tree.Tree.child_count.Goals as goal

pub returns-in_default : goal.returns-in_default
returns-in_default c = (let e = kept_none (look c.self.inside.nodes) c.args.self.now c.args.id c.self.view_is c.self.invariant (ap row_in (sym c.in_default.ensures.value)) in rw e refl)

pub returns : goal.returns
returns c =
    let k = kept_some (look c.self.inside.nodes) c.args.self.now c.args.id (row_of c.in-Some.node.now) c.self.view_is c.self.invariant (ap row_in (sym c.in-Some.ensures.value)) in
    read_count c.args.id c.len.result c.in-Some.node.now.children.items c.args.self.now k.0 k.2 (omega (arith, c.len.ensures, c.in-Some.node.now.children.ok.0))
