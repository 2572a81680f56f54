use Rattle.std.proofs.Common.{◌≡◌, ◌++◌, drop}
use Rattle.page_tree.proofs.sub.copy_attributes.Given as goal

abbrev pub invariant-loop-attribute : goal.invariant-loop-attribute
invariant-loop-attribute l = l.copies.items ++ drop l.attribute-index l.attributes ≡ l.attributes
