use Rattle.std.proofs.Common.{◌≡◌, map, take}
use Rattle.tpl_model.specs.ShownNodes.Shapes.{mark_of}
use Rattle.tpl_live.specs.Plans.{numbers_of}
use Rattle.tpl_live.proofs.plan.mark_numbers.Given as goal

-- the numbers of the marks so far
abbrev pub invariant-loop-mark : goal.invariant-loop-mark
invariant-loop-mark l = (l.numbers.items ≡ numbers_of (map mark_of (take l.mark-index l.marks)))
