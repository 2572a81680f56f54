-- What a computed is made from, and what it answers to the values known so far.
use Rattle.std.specs.Prelude.{◌≡◌, ℕ, ◌<◌, ◌==◌, ◌||◌, Bool, false, List, [], ◌∷◌, length, nat_lt, Option, None, if◌then◌else◌}
use Rattle.sig_base.specs.declared.value.Known.{Known}
use Rattle.sig_base.specs.declared.value.Step.{Step}
use Rattle.sig_base.specs.declared.value.Step.TheVariants.{Read, Done, Fail}
use Rattle.sig_base.specs.declared.value.Fault.TheVariants.{Slot, Twice}
use Rattle.sig_formula.specs.Trees.{Tree}
use Rattle.sig_formula.specs.declared.formula.RowRef.{RowRef}
use Rattle.sig_formula.specs.Evaluation.{answer_of}

-- what the host formula at each place answers to the values known so far
abbrev pub Hosts : Type 0
Hosts = ℕ → List Known → Step

-- no host formulas
abbrev pub no_hosts : Hosts
no_hosts place known = Fail Slot

-- a formula, with the present row where it stands in a loop over rows; or the host formula at a place
pub data Expression : Type 0 where
  formula : Option RowRef → Tree → Expression
  host : ℕ → Expression

-- an expression, and the signals that its slots or its arguments name, in order
pub record Recipe : Type 0 where
  pub expression : Expression
  pub slots : List ℕ

-- a formula in no loop, whose slots stand for these signals
abbrev pub formula_recipe : Tree → List ℕ → Recipe
formula_recipe t slots = record { expression = formula None t; slots = slots }

-- the answer as the expression gives it
abbrev pub given_answer : Hosts → Expression → List Known → Step
given_answer hosts (formula row t) known = answer_of t row known
given_answer hosts (host place) known = hosts place known

-- whether the value of a slot is known
abbrev pub is_known : ℕ → List Known → Bool
is_known s [] = false
is_known s (k ∷ ks) = k.slot == s || is_known s ks

-- a read outside of so many slots is the fault `slot`, and one of a known slot is `twice`
abbrev pub judged : ℕ → List Known → Step → Step
judged count known (Read s) = if nat_lt s count then (if is_known s known then Fail Twice else Read s) else Fail Slot
judged count known (Done v) = Done v
judged count known (Fail e) = Fail e

-- the answer of a recipe
abbrev pub recipe_answer : Hosts → Recipe → List Known → Step
recipe_answer hosts r known = judged (length r.slots) known (given_answer hosts r.expression known)

-- a slot below so many whose value isn't known
pub record IsUnknownSlot (count s : ℕ) (known : List Known) : Type 0 where
  pub inside : s < count
  pub unknown : is_known s known ≡ false

-- what is read is a slot below so many that isn't known
abbrev pub IsJudged : ℕ → List Known → Step → Type 0
IsJudged count known (Read s) = IsUnknownSlot count s known
IsJudged count known _ = Unit {0}
