use Rattle.std.proofs.Common.{map}
use Rattle.tpl_model.specs.ShownNodes.Shapes.{child_of}
use Rattle.tpl_drawn.proofs.Compares.Siblings.{listed_all, unlisted}
use Rattle.tpl_drawn.proofs.comparing.kept.put_if_listed.Goals as goal

pub returns : goal.returns
returns c = λ known k.
    listed_all c.args.listed (map child_of c.args.children.now.items) (map child_of c.put_staying.new.children.items) _ c.if-not-listed.false
    (c.in_ok-put_staying.ensures known k)

pub returns-then-not-listed : goal.returns-then-not-listed
returns-then-not-listed c = λ known k. unlisted c.args.listed (map child_of c.args.children.now.items) _ c.if-not-listed.true
