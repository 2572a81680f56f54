use Rattle.page_model.specs.Replay as replay
use Rattle.page_tree.specs.Rows.{look}
use Rattle.page_tree.proofs.Edits.{done_for, leads_for, unattr_leads}
use Rattle.page_tree.proofs.tree.Tree.unset_attr.Goals as goal

pub invariant_of-self : goal.invariant_of-self
invariant_of-self c = (unattr_leads c.args.id c.args.name.now (look c.self.inside.nodes) (look c.unset_attribute.new.nodes) c.self.invariant (done_for (replay.OpUnattr c.args.id c.args.name.now) (look c.self.inside.nodes) c.args.self.now c.self.view_is c.requires) c.unset_attribute.ensures).kept

pub returns : goal.returns
returns c = leads_for (replay.OpUnattr c.args.id c.args.name.now) (look c.self.inside.nodes) (look c.unset_attribute.new.nodes) c.args.self.now c.self.view_is (unattr_leads c.args.id c.args.name.now (look c.self.inside.nodes) (look c.unset_attribute.new.nodes) c.self.invariant (done_for (replay.OpUnattr c.args.id c.args.name.now) (look c.self.inside.nodes) c.args.self.now c.self.view_is c.requires) c.unset_attribute.ensures)
