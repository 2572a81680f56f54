-- Rows that values hold, and host formulas that make no others.
use Rattle.std.specs.Prelude.{ℕ, List}
use Rattle.std.specs.List.{AllByRecursion}
use Rattle.sig_base.specs.Tables.{AreRows}
use Rattle.sig_base.specs.declared.value.Known.{Known}
use Rattle.sig_base.specs.declared.value.Outcome.{Outcome}
use Rattle.sig_base.specs.declared.value.Outcome.TheVariants.{Good, Bad}
use Rattle.sig_base.specs.declared.value.Step.{Step}
use Rattle.sig_base.specs.declared.value.Step.TheVariants.{Read, Done, Fail}
use Rattle.sig_base.specs.declared.value.Value.{Value}
use Rattle.sig_base.specs.declared.value.Value.TheVariants as value
use Rattle.signal_model.specs.Recipes.{Hosts}
use Rattle.sig_host.specs.Hosts.{Meaning}

-- where a value is rows, these are rows: their keys are distinct, and they are at most `MOST_ROWS`
abbrev pub IsGood : Value → Type 0
IsGood (value.Rows t) = AreRows t.fields t.rows
IsGood _ = Unit {0}

-- the same of an outcome
abbrev pub IsGoodOutcome : Outcome → Type 0
IsGoodOutcome (Good v) = IsGood v
IsGoodOutcome (Bad e) = Unit {0}

-- the same of an answer
abbrev pub IsGoodStep : Step → Type 0
IsGoodStep (Done v) = IsGood v
IsGoodStep (Read s) = Unit {0}
IsGoodStep (Fail e) = Unit {0}

-- the same of each value that is known
abbrev pub AreGood : List Known → Type 0
AreGood known = AllByRecursion (λ (k : Known). IsGood k.value) known

-- what is answered makes rows of no others: where all rows that are known are rows, so are those that are given
pub record IsLending (f : Meaning) : Type 0 where
  pub gives : (known : List Known) → AreGood known → IsGoodStep (f known)

-- so it is with each host formula
abbrev pub LendsRows : Hosts → Type 0
LendsRows hosts = (place : ℕ) → IsLending (hosts place)
