use Rattle.std.proofs.Common.{sym, ap}
use Rattle.page_tree.specs.Rows.{look, row_in, row_of}
use Rattle.page_tree.proofs.Edits.{kept_some, kept_none}
use Rattle.page_tree.proofs.Queries.{label_off}
use Rattle.page_tree.proofs.tree.Tree.label_at.Goals as goal

pub returns-in_default : goal.returns-in_default
returns-in_default c = sym (label_off c.args.id c.args.self.now (kept_none (look c.self.inside.nodes) c.args.self.now c.args.id c.self.view_is c.self.invariant (ap row_in (sym c.in_default.ensures))))

pub returns : goal.returns
returns c = (kept_some (look c.self.inside.nodes) c.args.self.now c.args.id (row_of c.in-Some.node.now) c.self.view_is c.self.invariant (ap row_in (sym c.in-Some.ensures))).1
