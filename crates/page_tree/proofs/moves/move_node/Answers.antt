use Rattle.std.proofs.Common.{ap, sym}
use Rattle.page_tree.specs.Rows.{row_in, row_of}
use Rattle.page_tree.proofs.moves.move_node.Goals as goal

pub move_child-requires : goal.move_child-requires
move_child-requires c = λ r h. c.requires (row_of c.in-Some.node.now) r (ap row_in (sym c.in-Some.ensures.value)) h
