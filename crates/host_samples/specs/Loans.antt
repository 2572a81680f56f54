-- The sample formulas make rows of no others: they give those that they know.
use Rattle.std.proofs.Common.{ℕ, ℤ, ◌==◌, Bool, true, false, cond, List, [], ◌∷◌, Some}
use Rattle.std.specs.Int.{int_max, int_min}
use Rattle.std.specs.Prelude.{int_lt}
use Rattle.sig_base.specs.declared.value.Known.{Known}
use Rattle.sig_base.specs.declared.value.Fault.TheVariants.{Host}
use Rattle.sig_base.specs.declared.value.Step.{Step}
use Rattle.sig_base.specs.declared.value.Step.TheVariants.{Done, Fail}
use Rattle.sig_base.specs.declared.value.Value.{Value}
use Rattle.sig_base.specs.declared.value.Value.TheVariants as value
use Rattle.sig_formula.specs.Evaluation.{known_at}
use Rattle.sig_host.specs.Loans.{AreGood, IsGood, IsGoodStep, IsLending}
use Rattle.host_samples.specs.Samples.{cascade_step, clamp_step, clamped, nearest, pick_step, picked, reading, unless_false, with_value}

reading_good : (known : List Known) (slot : ℕ) (next : Value → Step) → AreGood known → ((v : Value) → IsGood v → IsGoodStep (next v)) →
    IsGoodStep (reading known slot next)
reading_good [] slot next g h = tt
reading_good (k ∷ ks) slot next g h = go (k.slot == slot) (reading_good ks slot next g.1 h)
  where
    go : (b : Bool) → IsGoodStep (reading ks slot next) → IsGoodStep (with_value (cond b (Some k.value) (known_at slot ks)) slot next)
    go true rest = h k.value g.0
    go false rest = rest

picked_good : (known : List Known) (v : Value) → AreGood known → IsGoodStep (picked known v)
picked_good known (value.Bool true) g = reading_good known 1 (λ v. Done v) g (λ v h. h)
picked_good known (value.Bool false) g = reading_good known 2 (λ v. Done v) g (λ v h. h)
picked_good known (value.Int n) g = tt
picked_good known (value.Text t) g = tt
picked_good known (value.Rows t) g = tt

pub pick_lends : IsLending pick_step
pick_lends = record { gives = λ known g. reading_good known 0 (picked known) g (λ v h. picked_good known v g) }

unless_good : (s : Step) (v : Value) → IsGoodStep s → IsGood v → IsGoodStep (unless_false s v)
unless_good s (value.Bool true) g h = tt
unless_good s (value.Bool false) g h = g
unless_good s (value.Int n) g h = tt
unless_good s (value.Text t) g h = tt
unless_good s (value.Rows t) g h = h

cascade_good : (known : List Known) → AreGood known → IsGoodStep (cascade_step known)
cascade_good known g =
    let last : Step = reading known 2 (λ v. Done v) in
    let rest : Step = reading known 1 (unless_false last) in
    reading_good known 0 (unless_false rest) g
    (λ v h. unless_good rest v (reading_good known 1 (unless_false last) g
    (λ w i. unless_good last w (reading_good known 2 (λ x. Done x) g (λ x j. j)) i)) h)

pub cascade_lends : IsLending cascade_step
cascade_lends = record { gives = cascade_good }

nearest_good : (n least greatest : ℤ) → IsGoodStep (nearest n least greatest)
nearest_good n least greatest = go (int_lt greatest least)
  where
    go : (b : Bool) → IsGoodStep (cond b (Fail (Host 2)) (Done (value.Int (int_min (int_max n least) greatest))))
    go true = tt
    go false = tt

clamped_good : (v w x : Value) → IsGoodStep (clamped v w x)
clamped_good (value.Int n) (value.Int least) (value.Int greatest) = nearest_good n least greatest
clamped_good (value.Int n) (value.Int least) (value.Bool b) = tt
clamped_good (value.Int n) (value.Int least) (value.Text t) = tt
clamped_good (value.Int n) (value.Int least) (value.Rows t) = tt
clamped_good (value.Int n) (value.Bool b) x = tt
clamped_good (value.Int n) (value.Text t) x = tt
clamped_good (value.Int n) (value.Rows t) x = tt
clamped_good (value.Bool b) w x = tt
clamped_good (value.Text t) w x = tt
clamped_good (value.Rows t) w x = tt

clamp_good : (known : List Known) → AreGood known → IsGoodStep (clamp_step known)
clamp_good known g =
    reading_good known 0 (λ n. reading known 1 (λ least. reading known 2 (λ greatest. clamped n least greatest))) g
    (λ n h. reading_good known 1 (λ least. reading known 2 (λ greatest. clamped n least greatest)) g
    (λ least i. reading_good known 2 (λ greatest. clamped n least greatest) g (λ greatest j. clamped_good n least greatest)))

pub clamp_lends : IsLending clamp_step
clamp_lends = record { gives = clamp_good }
