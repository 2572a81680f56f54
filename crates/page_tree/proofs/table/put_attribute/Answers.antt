use Rattle.std.proofs.Common.{arith}
use Rattle.page_tree.proofs.Lists.{put_in_is}
use Rattle.page_tree.proofs.table.put_attribute.Goals as goal

pub returns : goal.returns
returns c =
    let done = c.insert.ensures.succeeds c.requires.room in
    rw (c.insert.ensures.items, done) (put_in_is c.args.place (c.args.name, c.args.value) c.args.attributes.now.items (omega (arith, c.requires.within, c.args.attributes.now.ok.0)))
