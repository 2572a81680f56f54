use Rattle.tpl_drawn.proofs.Shaped.Behind.{one_more}
use Rattle.tpl_drawn.proofs.shown.parts.put.Goals as goal

pub returns : goal.returns
returns c = one_more c.args.out.now.items c.push.new.self.items c.args.node c.in_ok-push.ensures.items
