use Rattle.std.proofs.Common.{ap, ◌∙◌}
use Rattle.page_model.specs.Replay as replay
use Rattle.page_tree.specs.Rows.{look}
use Rattle.page_tree.proofs.Edits.{leads_for}
use Rattle.page_tree.proofs.Queries.{removed_leads}
use Rattle.page_tree.proofs.tree.Tree.remove.Goals as goal

pub invariant_of-self : goal.invariant_of-self
invariant_of-self c = (removed_leads c.args.id (look c.self.inside.nodes) (look c.remove_node.new.nodes) c.self.invariant (ap (replay.below_root c.args.id) c.self.view_is ∙ c.requires) c.remove_node.ensures).kept

pub returns : goal.returns
returns c = leads_for (replay.OpRemove c.args.id) (look c.self.inside.nodes) (look c.remove_node.new.nodes) c.args.self.now c.self.view_is (removed_leads c.args.id (look c.self.inside.nodes) (look c.remove_node.new.nodes) c.self.invariant (ap (replay.below_root c.args.id) c.self.view_is ∙ c.requires) c.remove_node.ensures)
