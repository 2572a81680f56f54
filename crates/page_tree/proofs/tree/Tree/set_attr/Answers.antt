use Rattle.page_tree.specs.Rows.{look}
use Rattle.page_tree.proofs.Queries.{attr_by_copies, attr_room_by_copy, kept_same}
use Rattle.page_tree.proofs.tree.Tree.set_attr.Goals as goal

pub set_attribute-requires : goal.set_attribute-requires
set_attribute-requires c = λ r h. attr_room_by_copy c.args.id c.args.place c.in_ok-name.name c.args.name.now c.args.value.now (look c.self.inside.nodes) c.args.self.now c.in_ok-name.ensures c.self.view_is c.self.invariant c.requires r h

pub invariant_of-self : goal.invariant_of-self
invariant_of-self c = kept_same (look c.self.inside.nodes) (look c.set_attribute.new.nodes) c.in_err-set_attribute.ensures c.self.invariant

pub invariant_of-self-2 : goal.invariant_of-self-2
invariant_of-self-2 c = (attr_by_copies c.args.id c.args.place c.in_ok-name.name c.args.name.now c.in_ok-value.value c.args.value.now (look c.self.inside.nodes) (look c.set_attribute.new.nodes) c.args.self.now c.in_ok-name.ensures c.in_ok-value.ensures c.self.view_is c.self.invariant c.requires c.in_ok-set_attribute.ensures).0

pub returns : goal.returns
returns c = (attr_by_copies c.args.id c.args.place c.in_ok-name.name c.args.name.now c.in_ok-value.value c.args.value.now (look c.self.inside.nodes) (look c.set_attribute.new.nodes) c.args.self.now c.in_ok-name.ensures c.in_ok-value.ensures c.self.view_is c.self.invariant c.requires c.in_ok-set_attribute.ensures).1
