-- The value of a signal from scratch, as if nothing had ever been kept.
use Rattle.std.specs.Prelude.{ℕ, zero, suc, ◌+◌, ◌||◌, Bool, List, [], ◌∷◌, ◌++◌, length, slice_index, if◌then◌else◌}
use Rattle.sig_base.specs.declared.value.Value.{Value}
use Rattle.sig_base.specs.declared.value.Fault.TheVariants.{Gone, Cycle}
use Rattle.sig_base.specs.declared.value.Known.{Known}
use Rattle.sig_base.specs.declared.value.Step.{Step}
use Rattle.sig_base.specs.declared.value.Step.TheVariants.{Read, Done, Fail}
use Rattle.sig_base.specs.declared.value.Outcome.{Outcome}
use Rattle.sig_base.specs.declared.value.Outcome.TheVariants.{Good, Bad}
use Rattle.signal_model.specs.Recipes.{Hosts, Recipe, recipe_answer, is_known}
use Rattle.signal_model.specs.Signals.{Computed, Signals, Stands, IsGone, IsCell, IsComputed, is_computed, is_in, computed_at, or_gone, standing}

-- a source that was read, and its outcome
pub record Seen : Type 0 where
  pub name : ℕ
  pub outcome : Outcome

-- how an evaluation went: what it read, in order, and what it came to
pub record Evaluation : Type 0 where
  pub reads : List Seen
  pub outcome : Outcome

-- it ends and reads nothing more
abbrev pub ended : Outcome → Evaluation
ended o = record { reads = []; outcome = o }

-- it reads a source before the rest
abbrev pub read_first : Seen → Evaluation → Evaluation
read_first s rest = record { reads = s ∷ rest.reads; outcome = rest.outcome }

-- an evaluation that has read some sources before
abbrev pub prefixed : List Seen → Evaluation → Evaluation
prefixed ss e = record { reads = ss ++ e.reads; outcome = e.outcome }

-- a fault of a source ends the reader with that fault, and with a good value it goes on
abbrev pub after_read : ℕ → Outcome → (Value → Evaluation) → Evaluation
after_read m (Bad e) go = read_first (record { name = m; outcome = Bad e }) (ended (Bad e))
after_read m (Good v) go = read_first (record { name = m; outcome = Good v }) (go v)

-- one answer of a recipe
abbrev pub after_step : Step → List ℕ → (ℕ → Outcome) → (ℕ → Value → Evaluation) → Evaluation
after_step (Done v) slots source go = ended (Good v)
after_step (Fail e) slots source go = ended (Bad e)
after_step (Read s) slots source go = after_read (slice_index slots s) (source (slice_index slots s)) (go s)

-- one more slot is known
abbrev pub learnt : List Known → ℕ → Value → List Known
learnt known s v = known ++ record { slot = s; value = v } ∷ []

-- a recipe asked at most so many times
abbrev pub asked_within : ℕ → Hosts → Recipe → (ℕ → Outcome) → List Known → Evaluation
asked_within zero hosts r source known = ended (Bad Cycle)
asked_within (suc turns) hosts r source known =
    after_step (recipe_answer hosts r known) r.slots source (λ s v. asked_within turns hosts r source (learnt known s v))

-- how many of the first so many slots aren't known
abbrev pub unknown_slots : ℕ → List Known → ℕ
unknown_slots zero known = 0
unknown_slots (suc n) known = (if is_known n known then 0 else 1) + unknown_slots n known

-- A recipe asked again and again, where its sources have these outcomes. Each good read makes one more slot known, so the bound is
-- never met.
abbrev pub asked_from : Hosts → Recipe → (ℕ → Outcome) → List Known → Evaluation
asked_from hosts r source known = asked_within (suc (unknown_slots (length r.slots) known)) hosts r source known

-- what the cases of a value say: gone, a cell's value, `cycle` on the path, and for any other computed what it comes to
abbrev pub value_case : Stands → Bool → (Computed → Outcome) → Outcome
value_case IsGone on_path rest = Bad Gone
value_case (IsCell c) on_path rest = Good c.value
value_case (IsComputed c) on_path rest = if on_path then Bad Cycle else rest c

-- the value at a depth of at most so many computeds
abbrev pub value_within : ℕ → Hosts → Signals → ℕ → List ℕ → Outcome
value_within zero hosts w n path = Bad Cycle
value_within (suc depth) hosts w n path =
    value_case (standing w n) (is_in n path) (λ c. (asked_from hosts c.recipe (λ m. value_within depth hosts w m (n ∷ path)) []).outcome)

-- how many names of computeds aren't on the path
abbrev pub names_left : List Computed → List ℕ → ℕ
names_left [] path = 0
names_left (c ∷ cs) path = (if is_in c.name path || is_computed (or_gone (computed_at c.name cs)) then 0 else 1) + names_left cs path

-- The value of a signal, read along a path of computeds that are being evaluated, the innermost first. Below a computed one name fewer
-- is left, so the bound is never met.
abbrev pub value_of : Hosts → Signals → ℕ → List ℕ → Outcome
value_of hosts w n path = value_within (suc (names_left w.computeds path)) hosts w n path

-- the evaluation of a computed along a path
abbrev pub evaluated : Hosts → Signals → Computed → List ℕ → Evaluation
evaluated hosts w c path = asked_from hosts c.recipe (λ m. value_of hosts w m (c.name ∷ path)) []

-- the sources that a computed reads from scratch, in order, each with its outcome
abbrev pub reads_of : Hosts → Signals → Computed → List Seen
reads_of hosts w c = (evaluated hosts w c []).reads

-- the evaluation of a recipe that belongs to no signal, such as the formula of a line of a template
abbrev pub recipe_evaluation : Hosts → Signals → Recipe → Evaluation
recipe_evaluation hosts w r = asked_from hosts r (λ m. value_of hosts w m []) []

-- what it comes to
abbrev pub recipe_value : Hosts → Signals → Recipe → Outcome
recipe_value hosts w r = (recipe_evaluation hosts w r).outcome
