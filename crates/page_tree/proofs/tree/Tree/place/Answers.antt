use Rattle.std.proofs.Common.{sym, ap}
use Rattle.page_tree.specs.Rows.{look, row_in}
use Rattle.page_tree.proofs.Edits.{kept_some, kept_none}
use Rattle.page_tree.proofs.tree.Tree.place.Goals as goal

pub returns-in_default : goal.returns-in_default
returns-in_default c = sym (kept_none (look c.self.inside.nodes) c.args.self.now c.args.id c.self.view_is c.self.invariant (ap row_in (sym c.in_default.ensures)))

pub returns : goal.returns
returns c = sym (kept_some (look c.self.inside.nodes) c.args.self.now c.args.id _ c.self.view_is c.self.invariant (ap row_in (sym c.in-Some.ensures))).0
