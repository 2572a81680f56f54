-- Worked examples: a list of acts, and the runs that the definitions give for it.
use Rattle.std.specs.Prelude.{◌≡◌, ℕ, zero, pos, List, [], ◌∷◌, ◌++◌, map, None, true, false}
use Rattle.std.proofs.Common.{refl}
use Rattle.sig_base.specs.declared.value.Value.{Value}
use Rattle.sig_base.specs.declared.value.Value.TheVariants as value
use Rattle.sig_base.specs.declared.value.Fault.TheVariants.{Gone, Cycle, Slot, Twice}
use Rattle.sig_base.specs.declared.value.Outcome.{Outcome}
use Rattle.sig_base.specs.declared.value.Outcome.TheVariants.{Good, Bad}
use Rattle.sig_base.specs.declared.value.Step.TheVariants.{Read}
use Rattle.sig_base.specs.declared.scalar.Scalar.TheVariants as scalar
use Rattle.sig_formula.specs.declared.formula.BinOp.TheVariants.{Add, Mul}
use Rattle.sig_formula.specs.Trees.{Tree, literal, slot, binary, choice}
use Rattle.signal_model.specs.Recipes.{Hosts, Recipe, formula_recipe, host}
use Rattle.signal_model.specs.Signals.{Signals}
use Rattle.signal_model.specs.Values.{Evaluation, recipe_evaluation}
use Rattle.signal_model.specs.Memos.{Memos}
use Rattle.signal_model.specs.Settling.{Run, Settled, settled}
use Rattle.signal_model.specs.Marks.{Mark, Clean, Checked, Dirty, mark_of}
use Rattle.signal_model.specs.Sound.{names_of}
use Rattle.signal_model.specs.Changes.{no_signals, no_memos, with_cell, with_computed, with_value, with_recipe, without_signal}
use Rattle.signal_model.specs.Changes.{after_making, after_change, after_rewiring, after_disposal}
use Rattle.signal_model.specs.Asks.{moments, asks_of}

-- what is done to a graph: making, setting, rewiring, disposing and asking for a value
pub data Act : Type 0 where
  cell : ℕ → Value → Act
  computed : ℕ → Recipe → Act
  set : ℕ → Value → Act
  rewire : ℕ → Recipe → Act
  dispose : ℕ → Act
  get : ℕ → Act

-- a run as it is shown: its name, the names that it read, and its outcome
pub record Shown : Type 0 where
  pub name : ℕ
  pub reads : List ℕ
  pub outcome : Outcome

-- the signals, what is kept of them, and the runs so far
pub record Graph : Type 0 where
  pub signals : Signals
  pub memos : Memos
  pub shown : List Shown

-- a host formula that asks for a slot outside its arguments at place 0, and twice for its first one at any other
abbrev pub odd_hosts : Hosts
odd_hosts zero known = Read 7
odd_hosts place known = Read 0

-- the host formula at a place, with its arguments
abbrev pub host_recipe : ℕ → List ℕ → Recipe
host_recipe place slots = record { expression = host place; slots = slots }

-- a run is shown
abbrev pub show : Run → Shown
show r = record { name = r.name; reads = names_of r.evaluation.reads; outcome = r.evaluation.outcome }

-- a name is asked for
abbrev pub settled_at : Graph → ℕ → Settled
settled_at g n = settled odd_hosts g.signals g.memos (n ∷ [])

-- the graph after an evaluation
abbrev pub after_get : Graph → Settled → Graph
after_get g s = record { signals = g.signals; memos = s.memos; shown = g.shown ++ map show s.runs }

-- the graph after an act
abbrev pub act : Graph → Act → Graph
act g (cell n v) = record g { signals = with_cell g.signals (record { name = n; value = v; rule = None }); memos = after_making g.memos n }
act g (computed n r) = record g { signals = with_computed g.signals (record { name = n; recipe = r }); memos = after_making g.memos n }
act g (set n v) = record g { signals = with_value g.signals n v; memos = after_change g.memos n }
act g (rewire n r) = record g { signals = with_recipe g.signals n r; memos = after_rewiring g.memos n }
act g (dispose n) = record g { signals = without_signal g.signals n; memos = after_disposal g.memos n }
act g (get n) = after_get g (settled_at g n)

-- the graph after a list of acts
abbrev pub acts : List Act → Graph → Graph
acts [] g = g
acts (a ∷ as') g = acts as' (act g a)

-- the graph of nothing
abbrev pub empty : Graph
empty = record { signals = no_signals; memos = no_memos; shown = [] }

-- a whole number as a value
abbrev pub int : ℕ → Value
int n = value.Int (pos n)

-- a whole number as a formula
abbrev pub number : ℕ → Tree
number n = literal (scalar.Int (pos n))

-- the value `true`
abbrev pub truth : Value
truth = value.Bool true

-- a number, and no slots
abbrev pub constant : ℕ → Recipe
constant n = formula_recipe (number n) []

-- what a signal has
abbrev pub same_as : ℕ → Recipe
same_as n = formula_recipe (slot 0) (n ∷ [])

-- a shown run
abbrev pub ran : ℕ → List ℕ → Outcome → Shown
ran n reads o = record { name = n; reads = reads; outcome = o }

-- the runs of a list of acts, in order
abbrev pub runs_of : List Act → List Shown
runs_of as' = (acts as' empty).shown

-- the mark of a signal after a list of acts
abbrev pub mark_after : List Act → ℕ → Mark
mark_after as' n = mark_of (acts as' empty).signals (acts as' empty).memos n

-- how often the host formula at a place is asked where a name is asked for after a list of acts
abbrev pub asks_after : List Act → ℕ → ℕ → ℕ
asks_after as' n place = asks_of place (moments (acts as' empty).signals (settled_at (acts as' empty) n).runs)

-- a = 1; b = a + 1; c = a * 2; d = b + c
abbrev pub sums : List Act
sums = cell 0 (int 1) ∷ computed 1 (formula_recipe (binary Add (slot 0) (number 1)) (0 ∷ []))
    ∷ computed 2 (formula_recipe (binary Mul (slot 0) (number 2)) (0 ∷ []))
    ∷ computed 3 (formula_recipe (binary Add (slot 0) (slot 1)) (1 ∷ 2 ∷ [])) ∷ []

-- d is asked for, and a is set to 2
abbrev pub diamond : List Act
diamond = sums ++ get 3 ∷ set 0 (int 2) ∷ []

-- b must run, and d keeps it
pub diamond_marks : (mark_after diamond 1 ≡ Dirty) × (mark_after diamond 3 ≡ Checked)
diamond_marks = (refl, refl)

-- each computed runs once for the change, sources first
pub diamond_runs : runs_of (diamond ++ get 3 ∷ [])
    ≡ ran 1 (0 ∷ []) (Good (int 2)) ∷ ran 2 (0 ∷ []) (Good (int 2)) ∷ ran 3 (1 ∷ 2 ∷ []) (Good (int 4))
    ∷ ran 1 (0 ∷ []) (Good (int 3)) ∷ ran 2 (0 ∷ []) (Good (int 4)) ∷ ran 3 (1 ∷ 2 ∷ []) (Good (int 7)) ∷ []
diamond_runs = refl

-- a formula that belongs to no signal, over the same signals: its slots are read in the order in which it needs them, each once
abbrev pub loose : Evaluation
loose = recipe_evaluation odd_hosts (acts sums empty).signals (formula_recipe (binary Add (slot 1) (binary Add (slot 0) (slot 1))) (1 ∷ 3 ∷ []))

-- what it reads, and what it comes to
pub loose_reads : (names_of loose.reads ≡ 3 ∷ 1 ∷ []) × (loose.outcome ≡ Good (int 10))
loose_reads = (refl, refl)

-- s = true; p = 1; q = 2; x = if s then p else q; x is asked for, and q is set
abbrev pub branches : List Act
branches = cell 0 truth ∷ cell 1 (int 1) ∷ cell 2 (int 2) ∷ computed 3 (formula_recipe (choice (slot 0) (slot 1) (slot 2)) (0 ∷ 1 ∷ 2 ∷ []))
    ∷ get 3 ∷ set 2 (int 3) ∷ []

-- what isn't read doesn't count, and a run replaces the sources
pub branches_marks : (mark_after branches 3 ≡ Clean) × (mark_after (branches ++ set 0 (value.Bool false) ∷ []) 3 ≡ Dirty)
branches_marks = (refl, refl)

-- x runs for s, and not for q
pub branches_runs : runs_of (branches ++ get 3 ∷ set 0 (value.Bool false) ∷ get 3 ∷ [])
    ≡ ran 3 (0 ∷ 1 ∷ []) (Good (int 1)) ∷ ran 3 (0 ∷ 2 ∷ []) (Good (int 3)) ∷ []
branches_runs = refl

-- s = true; b = 1; c = b * 10; x = if s then c else 0; x is asked for, and both cells are set
abbrev pub left_out : List Act
left_out = cell 0 truth ∷ cell 1 (int 1) ∷ computed 2 (formula_recipe (binary Mul (slot 0) (number 10)) (1 ∷ []))
    ∷ computed 3 (formula_recipe (choice (slot 0) (slot 1) (number 0)) (0 ∷ 2 ∷ []))
    ∷ get 3 ∷ set 1 (int 2) ∷ set 0 (value.Bool false) ∷ get 3 ∷ []

-- c isn't run, since the present evaluation doesn't read it
pub left_out_runs : runs_of left_out ≡ ran 2 (1 ∷ []) (Good (int 10)) ∷ ran 3 (0 ∷ 2 ∷ []) (Good (int 10)) ∷ ran 3 (0 ∷ []) (Good (int 0)) ∷ []
left_out_runs = refl

-- it stays as it was left
pub left_out_marks : mark_after left_out 2 ≡ Dirty
left_out_marks = refl

-- a = 1; b = a * 0; c = b; c is asked for, a is set, and c is asked for again: b comes to the same, so c needn't run
pub same_runs : runs_of (cell 0 (int 1) ∷ computed 1 (formula_recipe (binary Mul (slot 0) (number 0)) (0 ∷ [])) ∷ computed 2 (same_as 1)
    ∷ get 2 ∷ set 0 (int 2) ∷ get 2 ∷ [])
    ≡ ran 1 (0 ∷ []) (Good (int 0)) ∷ ran 2 (1 ∷ []) (Good (int 0)) ∷ ran 1 (0 ∷ []) (Good (int 0)) ∷ []
same_runs = refl

-- y = 5; x = y; y is rewired to x, and then to 1: a cycle comes and goes
abbrev pub broken_cycle : List Act
broken_cycle = computed 0 (constant 5) ∷ computed 1 (same_as 0) ∷ get 1 ∷ rewire 0 (same_as 1) ∷ get 1 ∷ rewire 0 (constant 1)
    ∷ get 1 ∷ get 0 ∷ []

-- what stands on the cycle is the fault `cycle`, and a value again afterwards
pub broken_cycle_runs : runs_of broken_cycle
    ≡ ran 0 [] (Good (int 5)) ∷ ran 1 (0 ∷ []) (Good (int 5)) ∷ ran 0 (1 ∷ []) (Bad Cycle) ∷ ran 1 (0 ∷ []) (Bad Cycle)
    ∷ ran 0 [] (Good (int 1)) ∷ ran 1 (0 ∷ []) (Good (int 1)) ∷ []
broken_cycle_runs = refl

-- a kept `cycle` serves as long as the generation stands, and any accepted change moves that
pub kept_cycle_runs : runs_of (cell 0 (int 0) ∷ computed 1 (constant 5) ∷ computed 2 (same_as 1) ∷ rewire 1 (same_as 2)
    ∷ get 2 ∷ get 1 ∷ set 0 (int 1) ∷ get 1 ∷ [])
    ≡ ran 1 (2 ∷ []) (Bad Cycle) ∷ ran 2 (1 ∷ []) (Bad Cycle) ∷ ran 2 (1 ∷ []) (Bad Cycle) ∷ ran 1 (2 ∷ []) (Bad Cycle) ∷ []
kept_cycle_runs = refl

-- c = 1; b = c; a = b; then c is rewired to a and b is asked for: a runs although b's number hasn't risen, since b is being evaluated
pub entered_cycle_runs : runs_of (computed 0 (constant 1) ∷ computed 1 (same_as 0) ∷ computed 2 (same_as 1) ∷ get 2
    ∷ rewire 0 (same_as 2) ∷ get 1 ∷ [])
    ≡ ran 0 [] (Good (int 1)) ∷ ran 1 (0 ∷ []) (Good (int 1)) ∷ ran 2 (1 ∷ []) (Good (int 1))
    ∷ ran 2 (1 ∷ []) (Bad Cycle) ∷ ran 0 (2 ∷ []) (Bad Cycle) ∷ ran 1 (0 ∷ []) (Bad Cycle) ∷ []
entered_cycle_runs = refl

-- a disposed source is the fault `gone`, and its reader must run; asked for again it has read gone as gone, and runs no more
pub gone_runs : runs_of (cell 0 (int 1) ∷ computed 1 (same_as 0) ∷ get 1 ∷ dispose 0 ∷ get 1 ∷ get 1 ∷ [])
    ≡ ran 1 (0 ∷ []) (Good (int 1)) ∷ ran 1 (0 ∷ []) (Bad Gone) ∷ []
gone_runs = refl

-- a cell, two computeds on host formulas that have it as their argument, and one whose argument is gone
abbrev pub with_hosts : List Act
with_hosts = cell 0 (int 1) ∷ computed 1 (host_recipe 0 (0 ∷ [])) ∷ computed 2 (host_recipe 1 (0 ∷ [])) ∷ computed 3 (host_recipe 1 (9 ∷ [])) ∷ []

-- a host formula that asks outside its arguments, or for what it knows, has a fault of its own
pub host_runs : runs_of (with_hosts ++ get 1 ∷ get 2 ∷ get 3 ∷ [])
    ≡ ran 1 [] (Bad Slot) ∷ ran 2 (0 ∷ []) (Bad Twice) ∷ ran 3 (9 ∷ []) (Bad Gone) ∷ []
host_runs = refl

-- it is asked once, and once more after each good read
pub host_asks : (asks_after with_hosts 1 0 ≡ 1) × (asks_after with_hosts 2 1 ≡ 2) × (asks_after with_hosts 3 1 ≡ 1)
host_asks = (refl, refl, refl)
