use Rattle.std.proofs.Common.{◌≡◌, ℕ, Bool, ◌||◌, drop, nat_eq}
use Rattle.indexmap.specs.IndexMap.{get}
use Rattle.page_model.specs.Forest.{on}
use Rattle.page_ops.specs.Numbers.{first_of, is_again}
use Rattle.page_ops.proofs.numbers.first_number.Given as goal

abbrev pub invariant-loop-number : goal.invariant-loop-number
invariant-loop-number l =
    let test : ℕ → Bool = λ n. on n l.tree || is_again (get nat_eq l.seen n) in
    first_of test (drop l.number-index l.numbers) ≡ first_of test l.numbers
