use Rattle.std.proofs.Common.{ap, map, ◌∙◌}
use Rattle.page_tree.specs.Subs.{side_by_side, sub_tree}
use Rattle.tpl_scratch.proofs.Numbers.{made, side_append}
use Rattle.tpl_scratch.proofs.nodes.Nodes.put_all.Goals as goal

pub returns : goal.returns
returns c =
    ap (λ x. made (side_by_side (map sub_tree x)) c.args.more.next) c.in_ok-append.ensures.items
    ∙ ap (λ x. made x c.args.more.next) (side_append c.args.self.now.subs.items c.args.more.subs.items)
