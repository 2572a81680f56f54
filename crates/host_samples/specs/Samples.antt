-- What the sample formulas answer to the values known so far.
use Rattle.std.specs.Prelude.{ℕ, ℤ, List, Option, Some, None, true, false, int_lt, if◌then◌else◌}
use Rattle.std.specs.Int.{int_max, int_min}
use Rattle.sig_base.specs.declared.value.Known.{Known}
use Rattle.sig_base.specs.declared.value.Fault.TheVariants.{Host, Kind}
use Rattle.sig_base.specs.declared.value.Step.{Step}
use Rattle.sig_base.specs.declared.value.Step.TheVariants.{Read, Done, Fail}
use Rattle.sig_base.specs.declared.value.Value.{Value}
use Rattle.sig_base.specs.declared.value.Value.TheVariants as value
use Rattle.sig_formula.specs.Evaluation.{known_at}

-- goes on with the value of a slot; where it isn't known, the slot is read
abbrev pub with_value : Option Value → ℕ → (Value → Step) → Step
with_value None slot next_step = Read slot
with_value (Some v) slot next_step = next_step v

-- reads a slot, and goes on with its value
abbrev pub reading : List Known → ℕ → (Value → Step) → Step
reading known slot next_step = with_value (known_at slot known) slot next_step

-- for true slot 1, for false slot 2
abbrev pub picked : List Known → Value → Step
picked known (value.Bool true) = reading known 1 (λ v. Done v)
picked known (value.Bool false) = reading known 2 (λ v. Done v)
picked known _ = Fail Kind

-- reads slot 0, and gives the slot that it chooses
abbrev pub pick_step : List Known → Step
pick_step known = reading known 0 (picked known)

-- a value that isn't `false`, and otherwise what comes next
abbrev pub unless_false : Step → Value → Step
unless_false next_step (value.Bool false) = next_step
unless_false next_step v = Done v

-- the first of slots 0 and 1 that isn't `false`, and otherwise slot 2
abbrev pub cascade_step : List Known → Step
cascade_step known = reading known 0 (unless_false (reading known 1 (unless_false (reading known 2 (λ v. Done v)))))

-- the number from the least to the greatest that is nearest, if there is one
abbrev pub nearest : ℤ → ℤ → ℤ → Step
nearest n least greatest = if int_lt greatest least then Fail (Host 2) else Done (value.Int (int_min (int_max n least) greatest))

-- the same of values, which have to be whole numbers
abbrev pub clamped : Value → Value → Value → Step
clamped (value.Int n) (value.Int least) (value.Int greatest) = nearest n least greatest
clamped _ _ _ = Fail Kind

-- reads slots 0, 1 and 2, a number and its bounds, and then keeps it within them
abbrev pub clamp_step : List Known → Step
clamp_step known = reading known 0 (λ n. reading known 1 (λ least. reading known 2 (λ greatest. clamped n least greatest)))
