use Rattle.std.proofs.Common.{◌≡◌, drop}
use Rattle.page_tree.specs.Queries as reading
use Rattle.page_tree.proofs.Lists.{after_many}
use Rattle.page_tree.proofs.table.place_named.Given as goal

abbrev pub invariant-loop-place : goal.invariant-loop-place
invariant-loop-place l = after_many l.place (reading.place_named l.name (drop l.place l.attributes)) ≡ reading.place_named l.name l.attributes
