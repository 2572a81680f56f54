-- What is heard of names while a page is brought up to date, and what hearing them leaves.
use Rattle.std.specs.Prelude.{◌≡◌, ◌<◌, ℕ, Bool, List, ◌++◌, [], Option, Some}
use Rattle.std.specs.List.{AllByRecursion}
use Rattle.std.specs.Map.{keys_of}
use Rattle.sig_base.specs.Tables.{AreRows}
use Rattle.sig_base.specs.declared.value.Value.TheVariants as value
use Rattle.sig_base.specs.declared.value.Outcome.{Outcome}
use Rattle.sig_base.specs.declared.value.Outcome.TheVariants.{Good}
use Rattle.sig_formula.specs.Trees.{Tree, slot}
use Rattle.sig_formula.specs.declared.formula.RowRef.{RowRef}
use Rattle.signal_model.specs.Recipes.{Hosts, Recipe, formula}
use Rattle.signal_model.specs.Signals.{Signals}
use Rattle.signal_model.specs.Values.{Seen, Evaluation, value_of}
use Rattle.signal_model.specs.Sound.{names_of}
use Rattle.signal_model.specs.Kept.{AreKept}
use Rattle.signal_laws.specs.ReadLaws.{firsts_after, IsReading}
pub use Rattle.sig_computed.specs.Scenes.{scene, CanSettle, Scene, Settles}
pub use Rattle.tpl_model.specs.KeptLines.Outcomes.{Outcomes, heard_of}

-- names, and whether they have the outcomes of before
abbrev pub Comparisons : Type 0
Comparisons = List (ℕ × Bool)

-- each name that was read was heard, with the outcome that was read of it
abbrev pub WereHeard : Outcomes → List Seen → Type 0
WereHeard heard reads = AllByRecursion (λ (s : Seen). heard_of heard s.name ≡ Some s.outcome) reads

-- each outcome is the value from scratch
abbrev pub AreFromScratch : Hosts → Signals → Outcomes → Type 0
AreFromScratch hosts w heard = AllByRecursion (λ (p : ℕ × Outcome). p.1 ≡ value_of hosts w p.0 []) heard

-- where an outcome is rows, these are rows
abbrev pub HasRows : Outcome → Type 0
HasRows (Good (value.Rows t)) = AreRows t.fields t.rows
HasRows o = Unit {0}

-- so it is for each outcome that was heard
abbrev pub HaveRows : Outcomes → Type 0
HaveRows heard = AllByRecursion (λ (p : ℕ × Outcome). HasRows p.1) heard

-- behind the names that were heard come others
pub record Grows (heard now : Outcomes) : Type 0 where
  pub more : Outcomes
  pub all : now ≡ heard ++ more

-- Hearing names: behind those that were heard come others, which are settled, and their outcomes are from scratch.
pub record Hears (old new : Scene) (before after : Hosts → Type 0) (heard now : Outcomes) : Type 0 where
  pub grows : Grows heard now
  pub settles : Settles old new before after (λ _. keys_of grows.more)
  pub scratch : (hosts : Hosts) → before hosts → AreKept hosts old.graph.state.signals old.graph.state.memos →
      AreFromScratch hosts old.graph.state.signals grows.more

-- an evaluation of a recipe: it is a reading of it, and each name that it read was heard, in order
pub record Evaluates (r : Recipe) (e : Evaluation) (earlier now : Outcomes) : Type 0 where
  pub reading : (hosts : Hosts) → IsReading hosts r e
  pub heard : WereHeard now e.reads
  pub names : keys_of now ≡ firsts_after (keys_of earlier) (names_of e.reads)

-- a formula of a line, with the row in which the line stands, and the signals that its slots stand for
abbrev pub recipe_of : Tree → Option RowRef → List ℕ → Recipe
recipe_of t row slots = record { expression = formula row t; slots = slots }

-- a formula is this slot and nothing else, and it is one of so many
pub record IsSlot (t : Tree) (s count : ℕ) : Type 0 where
  pub is : t ≡ slot s
  pub inside : s < count
