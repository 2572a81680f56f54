use Rattle.std.proofs.Common.{◌<◌, rules}
use Rattle.sig_formula.specs.Trees.{tree}
use Rattle.sig_formula.proofs.Shared.{first_fewer, next_fewer, operations}
use Rattle.sig_graph.proofs.ReadOn.{first_asks, made_read, next_asks, read_both}
use Rattle.sig_graph.proofs.reading.+read_tree.Goals as goal

pub read_tree-requires : goal.read_tree-requires
read_tree-requires t c =
    let whole = tree c.args.part.now in
    let a = tree c.in-Some.first.now in
    let fewer : operations a < operations whole = first_fewer whole a c.in-Some.ensures in
    (search rules, first_asks c.args.computation.now.recipe whole a c.args.known.now.items c.in-Some.ensures c.requires)

pub read_tree-requires-2 : goal.read_tree-requires-2
read_tree-requires-2 t c =
    let whole = tree c.args.part.now in
    let a = tree c.in-Some.first.now in
    let b = tree c.in-Some-next_part.next.now in
    let fewer : operations b < operations whole = next_fewer whole b c.in_ok-told.told c.in-Some-next_part.ensures in (
      search rules,
      next_asks c.args.nodes.now.items c.args.marks.now.marked c.args.computation.now.recipe c.args.known.now.items c.read_tree.new.known.items
          c.args.reads.now.items c.read_tree.new.reads.items whole a b c.in_ok-told.told c.requires c.in_ok-told.ensures.read c.in-Some.ensures
          c.in_ok-told.ensures.part c.in-Some-next_part.ensures,
    )

pub returns-clause-read : goal.returns-clause-read
returns-clause-read t c =
    read_both c.args.nodes.now.items c.args.marks.now.marked c.args.computation.now.recipe c.args.known.now.items c.read_tree.new.known.items
    c.read_tree-2.new.known.items c.args.reads.now.items c.read_tree.new.reads.items c.read_tree-2.new.reads.items c.in_ok-told.ensures.read
    c.in_ok-second.ensures.read

pub returns-clause-part : goal.returns-clause-part
returns-clause-part t c =
    made_read c.args.nodes.now.items c.args.marks.now.marked c.args.computation.now.recipe c.read_tree.new.known.items c.read_tree-2.new.known.items
    c.read_tree.new.reads.items c.read_tree-2.new.reads.items (tree c.args.part.now) (tree c.in-Some.first.now) (tree c.in-Some-next_part.next.now)
    c.in_ok-told.told c.in_ok-second.second c.part_made.result c.part_made.ensures c.in_ok-second.ensures.read c.in-Some.ensures c.in_ok-told.ensures.part
    c.in-Some-next_part.ensures c.in_ok-second.ensures.part
