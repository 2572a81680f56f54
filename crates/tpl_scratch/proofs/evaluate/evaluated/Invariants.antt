use Rattle.std.proofs.Common.{length}
use Rattle.std.specs.Option.{option_copied}
use Rattle.sig_formula.specs.Trees.{tree}
use Rattle.signal_model.specs.Values.{unknown_slots}
use Rattle.tpl_model.specs.Shapes.{row_here}
use Rattle.tpl_scratch.proofs.Asks.{IsAsking}
use Rattle.tpl_scratch.proofs.evaluate.evaluated.Given as goal

abbrev pub invariant-asking : goal.invariant-asking
invariant-asking l = IsAsking l.known (row_here (option_copied l.here)) (tree l.formula) l.read.items

abbrev pub decreases-asking : goal.decreases-asking
decreases-asking l = unknown_slots (length l.known) l.read.items
