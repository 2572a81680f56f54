use Rattle.std.proofs.Common.{map}
use Rattle.tpl_model.specs.ShownNodes.Shapes.{child_of}
use Rattle.tpl_drawn.proofs.Compares.Siblings.{listed_all, unlisted}
use Rattle.tpl_drawn.proofs.comparing.children.put_children.Goals as goal

pub returns : goal.returns
returns c =
    listed_all c.args.listed (map child_of c.args.children.now.items) (map child_of c.put_all.new.children.items) (map child_of c.args.more.items)
    c.if-not-listed.false c.in_ok-put_all.ensures

pub returns-then-not-listed : goal.returns-then-not-listed
returns-then-not-listed c = unlisted c.args.listed (map child_of c.args.children.now.items) (map child_of c.args.more.items) c.if-not-listed.true
