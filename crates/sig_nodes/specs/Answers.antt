-- What is asked of a computed, and what is answered about one signal.
use Rattle.std.specs.Prelude.{◌≡◌, ℕ, ◌≤◌, Bool, List, [], length, Option, Some, None, if◌then◌else◌}
use Rattle.sig_base.specs.declared.limits.TheConstants.{MOST_SOURCES}
use Rattle.sig_base.specs.declared.value.Value.{Value}
use Rattle.sig_base.specs.declared.value.Known.{Known}
use Rattle.sig_base.specs.declared.value.Step.{Step}
use Rattle.sig_base.specs.declared.value.Step.TheVariants.{Fail}
use Rattle.sig_formula.specs.Evaluation.{step_by}
use Rattle.sig_base.specs.declared.value.Fault.TheVariants as fault
use Rattle.sig_base.specs.declared.value.Outcome.{Outcome}
use Rattle.sig_base.specs.declared.value.Outcome.TheVariants.{Good, Bad}
use Rattle.sig_formula.specs.Trees.{tree}
use Rattle.signal_model.specs.Recipes as recipes
use Rattle.signal_model.specs.Recipes.{Hosts, recipe_answer, IsUnknownSlot}
use Rattle.signal_model.specs.Signals.{Stands, IsGone, IsCell, IsComputed}
use Rattle.signal_model.specs.Marks as marks
use Rattle.sig_nodes.specs.declared.answers.Recipe.{Recipe}
use Rattle.sig_nodes.specs.declared.answers.Recipe.TheVariants.{Formula, Host}
use Rattle.sig_nodes.specs.declared.answers.Asked.{Asked}
use Rattle.sig_nodes.specs.declared.answers.Asked.TheVariants.{Slot as SlotAsked, Ended, Host as HostAsked}
use Rattle.sig_nodes.specs.declared.answers.Mark.{Mark}
use Rattle.sig_nodes.specs.declared.answers.Mark.TheVariants.{Clean, Checked, Dirty}
use Rattle.sig_nodes.specs.declared.answers.Standing.{Standing}
use Rattle.sig_nodes.specs.declared.answers.Standing.TheVariants.{Gone, Cell, Computed, Computing}

-- what is asked, with the formula as a tree
abbrev pub expression_of : Recipe → recipes.Expression
expression_of (Formula f) = recipes.formula None (tree f)
expression_of (Host place) = recipes.host place

-- a host formula has at most as many arguments as a computed may have sources
abbrev pub HasFewSlots : recipes.Expression → List ℕ → Type 0
HasFewSlots (recipes.formula row t) slots = Unit {0}
HasFewSlots (recipes.host place) slots = length slots ≤ MOST_SOURCES

-- the place of the host formula that is asked, none for a formula
abbrev pub host_place : recipes.Expression → Option ℕ
host_place (recipes.formula row t) = None
host_place (recipes.host place) = Some place

-- the same of what stands under an id
abbrev pub host_here : Stands → Option ℕ
host_here (IsComputed c) = host_place c.recipe.expression
host_here _ = None

-- a cell's value
abbrev pub value_here : Stands → Option Value
value_here (IsCell c) = Some c.value
value_here _ = None

-- the place of a cell's equality rule
abbrev pub rule_here : Stands → Option ℕ
rule_here (IsCell c) = c.rule
rule_here _ = None

-- the signals that a computed's slots stand for
abbrev pub slots_here : Stands → List ℕ
slots_here (IsComputed c) = c.recipe.slots
slots_here _ = []

-- a computed that is computing is told apart
abbrev pub computed_kind : Bool → Standing
computed_kind b = if b then Computing else Computed

-- what stands under an id, without its values
abbrev pub kind_here : Stands → Bool → Standing
kind_here IsGone b = Gone
kind_here (IsCell c) b = Cell
kind_here (IsComputed c) b = computed_kind b

-- the answer of a computed's recipe
abbrev pub answer_here : Hosts → Stands → List Known → Step
answer_here hosts (IsComputed c) known = recipe_answer hosts c.recipe known
answer_here hosts _ known = Fail fault.Gone

-- a formula's answer is a step, by the outcome that stands where it came to one
abbrev pub IsStepAnswer : Asked → Outcome → Step → Type 0
IsStepAnswer (SlotAsked slot) o s = step_by (Some slot) o ≡ s
IsStepAnswer Ended o s = step_by None o ≡ s
IsStepAnswer (HostAsked place) o s = ⊥

-- a formula's answer, whatever host formulas mean, and of a host formula its place
abbrev pub IsAnswerOf : recipes.Recipe → List Known → Asked → Outcome → Type 0
IsAnswerOf r known (SlotAsked slot) o = (host_place r.expression ≡ None) × ((hosts : Hosts) → step_by (Some slot) o ≡ recipe_answer hosts r known)
IsAnswerOf r known Ended o = (host_place r.expression ≡ None) × ((hosts : Hosts) → step_by None o ≡ recipe_answer hosts r known)
IsAnswerOf r known (HostAsked place) o = host_place r.expression ≡ Some place

-- the same of what stands under an id
abbrev pub IsAnswerHere : Stands → List Known → Asked → Outcome → Type 0
IsAnswerHere (IsComputed c) known a o = IsAnswerOf c.recipe known a o
IsAnswerHere _ known a o = ⊥

-- a slot that a formula needs is there, and isn't known
abbrev pub IsJudgedAnswer : ℕ → List Known → Asked → Type 0
IsJudgedAnswer count known (SlotAsked slot) = IsUnknownSlot count slot known
IsJudgedAnswer count known Ended = Unit {0}
IsJudgedAnswer count known (HostAsked place) = Unit {0}

-- what a computed is read as: what it keeps, and `cycle` while it is being evaluated or where it has never run
abbrev pub shown_computed : Bool → Option Outcome → Outcome
shown_computed b None = Bad fault.Cycle
shown_computed b (Some o) = if b then Bad fault.Cycle else o

-- what is read of what stands under an id, by whether it is being evaluated and by what it keeps
abbrev pub shown_here : Stands → Bool → Option Outcome → Outcome
shown_here IsGone b o = Bad fault.Gone
shown_here (IsCell c) b o = Good c.value
shown_here (IsComputed c) b o = shown_computed b o

-- a mark as the definitions have it
abbrev pub mark_meant : Mark → marks.Mark
mark_meant Clean = marks.Clean
mark_meant Checked = marks.Checked
mark_meant Dirty = marks.Dirty
