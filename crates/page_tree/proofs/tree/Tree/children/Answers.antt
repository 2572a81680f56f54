use Rattle.std.proofs.Common.{refl, sym, ap, ◌∙◌}
use Rattle.page_tree.specs.Rows.{look, row_in, row_of}
use Rattle.page_tree.proofs.Edits.{kept_some, kept_none}
use Rattle.page_tree.proofs.Queries.{children_off}
use Rattle.page_tree.proofs.tree.Tree.children.Goals as goal

pub returns-in_default : goal.returns-in_default
returns-in_default c = (let e = children_off c.args.id c.args.self.now (kept_none (look c.self.inside.nodes) c.args.self.now c.args.id c.self.view_is c.self.invariant (ap row_in (sym c.in_default.ensures))) in rw e refl)

pub returns : goal.returns
returns c = c.deref.ensures.value ∙ (kept_some (look c.self.inside.nodes) c.args.self.now c.args.id (row_of c.in-Some.node.now) c.self.view_is c.self.invariant (ap row_in (sym c.in-Some.ensures))).2
