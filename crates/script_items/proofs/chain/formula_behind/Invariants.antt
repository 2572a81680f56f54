use Rattle.std.proofs.Common.{◌≡◌}
use Rattle.sig_formula.specs.Trees.{tree}
use Rattle.script_items.specs.Chains.{linked_tree}
use Rattle.script_items.proofs.chain.formula_behind.Given as goal

abbrev pub invariant-loop-link : goal.invariant-loop-link
invariant-loop-link l = tree l.formula ≡ linked_tree l.names (tree l.fn.first) l.yielded
