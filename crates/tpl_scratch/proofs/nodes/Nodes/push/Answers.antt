use Rattle.std.proofs.Common.{refl}
use Rattle.page_tree.specs.Subs.{sub_tree}
use Rattle.tpl_scratch.proofs.Numbers.{pushed}
use Rattle.tpl_scratch.proofs.nodes.Nodes.push.Goals as goal

pub returns : goal.returns
returns c = pushed c.args.self.now.subs.items c.push.new.self.items c.args.sub (sub_tree c.args.sub) c.args.self.now.next c.in_ok-push.ensures.items refl
