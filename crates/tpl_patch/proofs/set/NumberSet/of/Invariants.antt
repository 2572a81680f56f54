use Rattle.std.proofs.Common.{◌≡◌, ◌||◌, ℕ, nat_eq, drop}
use Rattle.indexmap.specs.IndexSet.{contains}
use Rattle.page_model.specs.Edits.{listed}
use Rattle.tpl_patch.proofs.set.NumberSet.of.Given as goal

-- each number is in the set or still to come
abbrev pub invariant-loop-number : goal.invariant-loop-number
invariant-loop-number l = (n : ℕ) → (contains nat_eq l.held n || listed n (drop l.number-index l.numbers)) ≡ listed n l.numbers
