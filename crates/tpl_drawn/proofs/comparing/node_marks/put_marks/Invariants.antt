use Rattle.std.proofs.Common.{map}
use Rattle.tpl_model.specs.ShownNodes.Shapes.{mark_of}
use Rattle.tpl_drawn.proofs.Compares.Marks.{AreLeft}
use Rattle.tpl_drawn.proofs.comparing.node_marks.put_marks.Given as goal

-- the marks so far and those that are left are all
abbrev pub invariant-loop-mark : goal.invariant-loop-mark
invariant-loop-mark l =
    AreLeft (map mark_of l.mark-iterator.rest.items) (map mark_of l.initial.mark-iterator.rest.items) (map mark_of l.out.touched.items)
    (map mark_of l.out.restated.items) (map mark_of l.initial.out.touched.items) (map mark_of l.initial.out.restated.items)
