use Rattle.std.proofs.Common.{◌≡◌, drop}
use Rattle.page_tree.specs.Queries as reading
use Rattle.page_tree.proofs.table.value_named.Given as goal

abbrev pub invariant-loop-attribute : goal.invariant-loop-attribute
invariant-loop-attribute l = reading.value_named l.name (drop l.attribute-index l.attributes) ≡ reading.value_named l.name l.attributes
