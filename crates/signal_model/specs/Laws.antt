-- Laws over the definitions.
use Rattle.std.specs.Prelude.{◌≡◌, ℕ, ◌<◌, ◌||◌, true, false, Bool, List, [], ◌∷◌, ◌++◌, length, ◌⊎◌, Option}
use Rattle.sig_base.specs.declared.value.Known.{Known}
use Rattle.sig_base.specs.declared.value.Outcome.{Outcome}
use Rattle.sig_base.specs.declared.value.Outcome.TheVariants.{Bad}
use Rattle.sig_base.specs.declared.value.Fault.TheVariants.{Cycle}
use Rattle.sig_formula.specs.Trees.{Tree, has_slot}
use Rattle.sig_formula.specs.declared.formula.RowRef.{RowRef}
use Rattle.sig_formula.specs.Evaluation.{answer_of}
use Rattle.signal_model.specs.Recipes.{Hosts, Recipe, formula, recipe_answer}
use Rattle.signal_model.specs.Signals.{Signals, Computed, IsComputed, is_in, standing}
use Rattle.signal_model.specs.Values.{Seen, learnt, after_step, asked_from, value_of, value_case, evaluated, reads_of}
use Rattle.signal_model.specs.Orders.{Visit, visited, visits, visit_case, visit, evaluation_order}
use Rattle.signal_model.specs.Memos.{Memos}
use Rattle.signal_model.specs.Marks.{HasBelow, Mark, IsMark, found_below, mark_of}
use Rattle.signal_model.specs.Kept.{OnlyComputedsKeep}

-- a recipe is asked as far as its answers say, with no bound in sight
abbrev pub AskedBySteps : Type 0
AskedBySteps = (hosts : Hosts) (r : Recipe) (source : ℕ → Outcome) (known : List Known) →
    asked_from hosts r source known ≡ after_step (recipe_answer hosts r known) r.slots source (λ s v. asked_from hosts r source (learnt known s v))

-- the four cases of a value, with no bound in sight
abbrev pub ValueByCases : Type 0
ValueByCases = (hosts : Hosts) (w : Signals) (n : ℕ) (path : List ℕ) →
    value_of hosts w n path ≡ value_case (standing w n) (is_in n path) (λ c. (evaluated hosts w c path).outcome)

-- a name is among the reads
abbrev pub IsRead : ℕ → List Seen → Type 0
IsRead n [] = ⊥
IsRead n (s ∷ ss) = (n ≡ s.name) ⊎ IsRead n ss

-- a computed reads a name from scratch
pub record Reads (hosts : Hosts) (w : Signals) (p n : ℕ) : Type 0 where
  pub computed : Computed
  pub stands : standing w p ≡ IsComputed computed
  pub read : IsRead n (reads_of hosts w computed)

-- each member of the path, the innermost first, reads the one before it, and the innermost reads n
abbrev pub IsChain : Hosts → Signals → ℕ → List ℕ → Type 0
IsChain hosts w n [] = Unit {0}
IsChain hosts w n (p ∷ ps) = Reads hosts w p n × IsChain hosts w p ps

-- along a path of reads a value is that with no path
abbrev pub PathLaw : Type 0
PathLaw = (hosts : Hosts) (w : Signals) (n : ℕ) (path : List ℕ) → IsChain hosts w n path → value_of hosts w n path ≡ value_of hosts w n []

-- one name reads the next, and so on to the last
pub data Leads (hosts : Hosts) (w : Signals) : ℕ → ℕ → Type 0 where
  one : {a b : ℕ} → Reads hosts w a b → Leads hosts w a b
  more : {a b c : ℕ} → Reads hosts w a b → Leads hosts w b c → Leads hosts w a c

-- what stands on a cycle of reads, or leads to one, has the fault `cycle`, by whatever path it is read
abbrev pub CycleLaw : Type 0
CycleLaw = (hosts : Hosts) (w : Signals) (n m : ℕ) (path : List ℕ) → (n ≡ m) ⊎ Leads hosts w n m → Leads hosts w m m →
    value_of hosts w n path ≡ Bad Cycle

-- no name stands twice
abbrev pub AreDistinct : List ℕ → Type 0
AreDistinct [] = Unit {0}
AreDistinct (n ∷ ns) = (is_in n ns ≡ false) × AreDistinct ns

-- the cases of a visit, with no bound in sight: first what the computed reads, and then itself
abbrev pub VisitByCases : Type 0
VisitByCases = (hosts : Hosts) (w : Signals) (path : List ℕ) (n : ℕ) (done : List Visit) →
    visit hosts w path n done ≡ visit_case (standing w n) (is_in n path || is_in n (visited done)) done
    (λ c. visits (visit hosts w (n ∷ path)) (reads_of hosts w c) done ++ record { computed = c; path = path } ∷ [])

-- the order of evaluation names each computed once
abbrev pub OrderLaw : Type 0
OrderLaw = (hosts : Hosts) (w : Signals) (asked : List ℕ) → AreDistinct (visited (evaluation_order hosts w asked))

-- a formula whose slots have names answers as it is written: it asks for no slot outside, and for none that is known
abbrev pub FormulaLaw : Type 0
FormulaLaw = (hosts : Hosts) (t : Tree) (row : Option RowRef) (slots : List ℕ) (known : List Known) →
    ((s : ℕ) → has_slot s t ≡ true → s < length slots) →
    recipe_answer hosts (record { expression = formula row t; slots = slots }) known ≡ answer_of t row known

-- ---- what is kept below

-- what the search for a name below finds, it finds within as many steps as there are computeds
abbrev pub SearchLaw : Type 0
SearchLaw = (test : ℕ → Bool) (w : Signals) (k : Memos) (far n : ℕ) → OnlyComputedsKeep w k → found_below test far k n ≡ true →
    found_below test (length w.computeds) k n ≡ true

-- the search answers yes exactly where a name that passes the test is kept below
pub record Searches (test : ℕ → Bool) (w : Signals) (k : Memos) (n : ℕ) : Type 0 where
  pub found : found_below test (length w.computeds) k n ≡ true → HasBelow test k n
  pub finds : HasBelow test k n → found_below test (length w.computeds) k n ≡ true

-- so it does for any test, and from any name
abbrev pub BelowLaw : Type 0
BelowLaw = (test : ℕ → Bool) (w : Signals) (k : Memos) (n : ℕ) → OnlyComputedsKeep w k → Searches test w k n

-- each computed has the mark that is found, and no other
abbrev pub MarkLaw : Type 0
MarkLaw = (w : Signals) (k : Memos) (n : ℕ) (mark : Mark) → OnlyComputedsKeep w k →
    IsMark w k n (mark_of w k n) × (IsMark w k n mark → mark ≡ mark_of w k n)
