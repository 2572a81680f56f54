use Rattle.std.proofs.Common.{ap, ◌∙◌}
use Rattle.page_model.specs.Forest.{Forest, after}
use Rattle.page_model.specs.Labels.{Kind}
use Rattle.page_tree.specs.Subs.{side_by_side, sub_tree}
use Rattle.std.specs.Prelude.{map}
use Rattle.page_tree.proofs.Shared.{tree_element}
use Rattle.tpl_scratch.proofs.Numbers.{made}
use Rattle.tpl_scratch.proofs.nodes.Nodes.put_element.Goals as goal

pub returns : goal.returns
returns c =
    c.in_ok-push.ensures
    ∙ ap (λ (t : Forest Kind). made (after (side_by_side (map sub_tree c.args.self.now.subs.items)) t) c.args.children.next)
    (tree_element c.args.self.now.next c.args.name c.args.attributes c.args.children.subs)
