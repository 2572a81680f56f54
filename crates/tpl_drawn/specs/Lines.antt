-- From which line of a template each node of a page comes, by the node's number.
use Rattle.std.specs.Prelude.{ℕ, ◌+◌, ◌==◌, nat_eq, Option, Some, List, [], ◌∷◌, if◌then◌else◌}
use Rattle.indexmap.specs.IndexMap.{IndexMap, get}
use Rattle.tpl_model.specs.declared.shown.Address.{Address}
use Rattle.tpl_drawn.specs.declared.marks.numbers.Numbers.{Numbers}

-- the line that a map has at a number
abbrev pub line_in : {S : Type 0} → IndexMap ℕ ℕ S → ℕ → Option ℕ
line_in lines n = get nat_eq lines n

-- the line that was noted of a number
abbrev pub line_at : Numbers → ℕ → Option ℕ
line_at n k = line_in n.lines k

-- the lines of addresses noted one after the other, each under a number
abbrev pub lined : List Address → List ℕ → (ℕ → Option ℕ) → ℕ → Option ℕ
lined [] ns m = m
lined (x ∷ xs) [] m = m
lined (x ∷ xs) (n ∷ ns) m = lined xs ns (λ k. if n == k then Some x.line else m k)

-- the same, each under the next number from this one on
abbrev pub lined_from : List Address → ℕ → (ℕ → Option ℕ) → ℕ → Option ℕ
lined_from [] n m = m
lined_from (x ∷ xs) n m = lined_from xs (n + 1) (λ k. if n == k then Some x.line else m k)
