-- Numbers that stand in their order among others.
use Rattle.std.specs.Prelude.{ℕ, suc, Bool, true, false, ◌==◌, ◌&&◌, nat_lt, if◌then◌else◌, List, [], ◌∷◌}
use Rattle.keyed_each.specs.declared.places.RowStep.{RowStep}
use Rattle.keyed_each.specs.declared.places.RowStep.TheVariants.{Keep, Insert}

-- the numbers below n
abbrev pub below : ℕ → List ℕ → List ℕ
below n [] = []
below n (m ∷ ms) = if nat_lt m n then m ∷ below n ms else below n ms

-- what waits behind a number, where it comes first
abbrev pub behind : ℕ → List ℕ → List ℕ
behind x [] = []
behind x (m ∷ ms) = if m == x then ms else m ∷ ms

-- whether none waits
abbrev pub none_wait : List ℕ → Bool
none_wait [] = true
none_wait (m ∷ ms) = false

-- whether numbers stand in their order among others, all of which are below n
abbrev pub stand_among : ℕ → List ℕ → List ℕ → Bool
stand_among n ms [] = none_wait ms
stand_among n ms (x ∷ xs) = nat_lt x n && stand_among n (behind x ms) xs

-- the steps for numbers from place i on, where those below n stand and the others come
abbrev pub stand_from : ℕ → ℕ → List ℕ → List RowStep
stand_from n i [] = []
stand_from n i (m ∷ ms) = (if nat_lt m n then Keep else Insert i) ∷ stand_from n (suc i) ms
