use Rattle.std.proofs.Common.{◌≡◌, ℕ, take, nat_eq}
use Rattle.indexmap.specs.IndexMap.{get}
use Rattle.page_ops.specs.Numbers.{mark, often}
use Rattle.page_ops.proofs.numbers.noted.Given as goal

abbrev pub invariant-loop-number : goal.invariant-loop-number
invariant-loop-number l = (q : ℕ) → get nat_eq l.seen q ≡ mark (often q (take l.number-index l.numbers))
