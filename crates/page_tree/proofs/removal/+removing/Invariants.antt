use Rattle.std.proofs.Common.{◌≡◌, ℕ, ◌+◌, ◌*◌, drop}
use Rattle.page_tree.specs.Rows.{cut, look}
use Rattle.page_tree.proofs.removal.+removing.Given as goal

abbrev pub decreases-remove_all : goal.decreases-remove_all
decreases-remove_all l = 2 * l.levels

abbrev pub decreases-remove_one : goal.decreases-remove_one
decreases-remove_one l = 2 * l.levels + 1

abbrev pub invariant-remove_all-loop-id : goal.invariant-remove_all-loop-id
invariant-remove_all-loop-id l = (q : ℕ) → cut l.levels (drop l.id-index l.ids) (look l.nodes) q ≡ cut l.levels l.ids (look l.initial.nodes) q
