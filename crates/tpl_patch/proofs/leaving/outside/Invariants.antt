use Rattle.std.proofs.Common.{◌≡◌, ◌++◌, not, drop}
use Rattle.page_model.specs.Pages.{those}
use Rattle.tpl_patch.specs.Sets.{tells}
use Rattle.tpl_patch.proofs.leaving.outside.Given as goal

-- those so far, and the numbers that are left
abbrev pub invariant-loop-number : goal.invariant-loop-number
invariant-loop-number l = l.left.items ++ those (λ n. not (tells l.set n)) (drop l.number-index l.numbers) ≡ those (λ n. not (tells l.set n)) l.numbers
