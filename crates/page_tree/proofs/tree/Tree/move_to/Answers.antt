use Rattle.page_model.specs.Replay as replay
use Rattle.page_tree.specs.Rows.{look}
use Rattle.page_tree.proofs.Edits.{done_for, leads_for}
use Rattle.page_tree.proofs.Queries.{move_room, moved_leads}
use Rattle.page_tree.proofs.tree.Tree.move_to.Goals as goal

pub invariant_of-self : goal.invariant_of-self
invariant_of-self c = (moved_leads c.args.id c.args.place (look c.self.inside.nodes) (look c.move_node.new.nodes) c.self.invariant (done_for (replay.OpMove c.args.id c.args.place) (look c.self.inside.nodes) c.args.self.now c.self.view_is c.requires) c.move_node.ensures).kept

pub returns : goal.returns
returns c = leads_for (replay.OpMove c.args.id c.args.place) (look c.self.inside.nodes) (look c.move_node.new.nodes) c.args.self.now c.self.view_is (moved_leads c.args.id c.args.place (look c.self.inside.nodes) (look c.move_node.new.nodes) c.self.invariant (done_for (replay.OpMove c.args.id c.args.place) (look c.self.inside.nodes) c.args.self.now c.self.view_is c.requires) c.move_node.ensures)

pub move_node-requires : goal.move_node-requires
move_node-requires c = λ r s h g. move_room c.args.id c.args.place (look c.self.inside.nodes) c.args.self.now c.self.view_is c.self.invariant c.requires r s h g
