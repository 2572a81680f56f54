use Rattle.std.proofs.Common.{arith}
use Rattle.page_tree.proofs.Lists.{put_is}
use Rattle.page_tree.proofs.table.put_child.Goals as goal

pub returns : goal.returns
returns c =
    let done = c.insert.ensures.succeeds c.requires.room in
    rw (c.insert.ensures.items, done) (put_is c.args.place c.args.id c.args.children.now.items (omega (arith, c.requires.within, c.args.children.now.ok.0)))
