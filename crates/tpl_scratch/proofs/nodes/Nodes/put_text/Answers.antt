use Rattle.page_tree.proofs.Shared.{tree_text}
use Rattle.tpl_scratch.specs.Pages.{nodes_of}
use Rattle.tpl_scratch.proofs.Numbers.{text_put}
use Rattle.tpl_scratch.proofs.nodes.Nodes.put_text.Goals as goal

pub returns : goal.returns
returns c =
    text_put (nodes_of c.args.self.now) (nodes_of c.push.new.self) c.args.text _ c.in_ok-next.next c.in_ok-push.ensures
    (tree_text c.args.self.now.next c.args.text) c.in_ok-next.ensures
