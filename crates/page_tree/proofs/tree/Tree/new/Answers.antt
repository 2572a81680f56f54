use Rattle.page_tree.specs.Rows.{look}
use Rattle.page_tree.proofs.Edits.{new_kept}
use Rattle.page_tree.proofs.tree.Tree.new.Goals as goal

pub invariant_of-result : goal.invariant_of-result
invariant_of-result c = (new_kept (look c.in_ok-root_alone.field-0) c.in_ok-root_alone.ensures).0

pub returns : goal.returns
returns c = (new_kept (look c.in_ok-root_alone.field-0) c.in_ok-root_alone.ensures).1
