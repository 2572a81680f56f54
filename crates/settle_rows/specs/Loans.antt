-- A host formula that gives its first value makes no rows.
use Rattle.std.specs.Prelude.{List, [], ◌∷◌, option_map, slice_get, unwrap_or}
use Rattle.sig_base.specs.declared.value.Known.{Known}
use Rattle.sig_base.specs.declared.value.Step.TheVariants.{Done, Read}
use Rattle.sig_host.specs.Hosts.{Meaning}
use Rattle.sig_host.specs.Loans.{AreGood, IsGoodStep, IsLending}

-- the value of the first slot that is known, which is slot 0; before, it is read
abbrev pub first_step : Meaning
first_step known = unwrap_or (option_map (λ (k : Known). Done k.value) (slice_get known 0)) (Read 0)

first_good : (known : List Known) → AreGood known → IsGoodStep (first_step known)
first_good [] g = tt
first_good (k ∷ known) g = g.0

pub first_lends : IsLending first_step
first_lends = record { gives = first_good }
