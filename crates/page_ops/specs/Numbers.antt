-- Numbers that stand in a list, once or more often.
use Rattle.std.specs.Prelude.{ℕ, ◌+◌, ◌==◌, Bool, true, false, ltb, if◌then◌else◌, List, [], ◌∷◌, Option, Some, None}
use Rattle.page_model.specs.Forest.{one}

-- how often a number stands in the list
abbrev pub often : ℕ → List ℕ → ℕ
often n [] = 0
often n (m ∷ ms) = one (m == n) + often n ms

-- whether something that is there at all is there more than once
abbrev pub mark : ℕ → Option Bool
mark times = if times == 0 then None else Some (ltb 1 times)

-- a number that was met before is met more than once
abbrev pub met_again : Option Bool → Bool
met_again None = false
met_again (Some again) = true

-- met more than once
abbrev pub is_again : Option Bool → Bool
is_again None = false
is_again (Some again) = again

-- the first number of the list that passes a test
abbrev pub first_of : (ℕ → Bool) → List ℕ → Option ℕ
first_of test [] = None
first_of test (n ∷ ns) = if test n then Some n else first_of test ns
