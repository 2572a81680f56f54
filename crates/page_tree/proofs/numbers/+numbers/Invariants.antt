use Rattle.std.proofs.Common.{◌≡◌, ◌++◌, ◌+◌, ◌*◌, drop}
use Rattle.page_model.specs.Forest.{keys}
use Rattle.page_tree.specs.Rows.{build, look}
use Rattle.page_tree.proofs.numbers.+numbers.Given as goal

abbrev pub decreases-put_number : goal.decreases-put_number
decreases-put_number l = 2 * l.levels

abbrev pub decreases-put_numbers : goal.decreases-put_numbers
decreases-put_numbers l = 2 * l.levels + 1

abbrev pub invariant-put_numbers-loop-id : goal.invariant-put_numbers-loop-id
invariant-put_numbers-loop-id l =
    (l.out.items ++ keys (build l.levels (look l.nodes) (drop l.id-index l.ids)) ≡ l.initial.out.items ++ keys (build l.levels (look l.nodes) l.ids))
