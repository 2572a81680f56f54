-- The tree of a node that is shown.
use Rattle.std.proofs.Common.{◌≡◌, sym, ap, ◌∙◌}
use Rattle.page_model.specs.Forest.{Forest, none, node}
use Rattle.page_model.specs.Labels as label
use Rattle.tpl_model.specs.declared.shown.Address.{Address}
use Rattle.tpl_model.specs.declared.shown.Look.{Look}
use Rattle.tpl_model.specs.declared.shown.Shown.{Shown}
use Rattle.tpl_model.specs.declared.shown.Shown.TheViews.{out-Shown, roll-Shown, roll-out-Shown}
use Rattle.tpl_model.specs.declared.shown.Shown.TheFolds.{fold-roll-Shown}
use Rattle.tpl_model.specs.ShownNodes.Addresses.{address_of}
use Rattle.tpl_model.specs.ShownNodes.Shapes.{all_shown, look_of, shown_node, shown_tree}

pub tree_shown : (a : Address) (l : Look) (xs : _) →
    shown_tree (roll-Shown (record { address = a; look = l; children = xs })) ≡ node (address_of a) (look_of l) (all_shown xs.items) none
unfolding shown_tree
tree_shown a l xs = fold-roll-Shown (Forest label.Look) shown_node (record { address = a; look = l; children = xs })

-- so it is of any node
pub tree_is : (s : Shown) → shown_tree s ≡ node (address_of (out-Shown s).address) (look_of (out-Shown s).look) (all_shown (out-Shown s).children.items) none
unfolding shown_tree
tree_is s = ap shown_tree (sym (roll-out-Shown s)) ∙ fold-roll-Shown (Forest label.Look) shown_node (out-Shown s)
