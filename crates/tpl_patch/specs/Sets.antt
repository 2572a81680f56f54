-- Sets of numbers.
use Rattle.std.specs.Prelude.{ℕ, Bool, List, nat_eq, not}
use Rattle.indexmap.specs.IndexSet.{contains}
use Rattle.page_model.specs.Edits.{listed}
use Rattle.page_model.specs.Pages.{those}
use Rattle.tpl_patch.specs.declared.set.NumberSet.{NumberSet}

-- whether a set has a number
abbrev pub tells : NumberSet → ℕ → Bool
tells s n = contains nat_eq s.numbers n

-- those of some numbers that aren't among the kept ones
abbrev pub left_out : (kept : List ℕ) → List ℕ → List ℕ
left_out kept ns = those (λ n. not (listed n kept)) ns
