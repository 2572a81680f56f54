-- How often a list of runs asks a host formula.
use Rattle.std.specs.Prelude.{ℕ, ◌+◌, ◌==◌, Bool, true, false, List, [], ◌∷◌, map, if◌then◌else◌}
use Rattle.sig_base.specs.declared.value.Outcome.{Outcome}
use Rattle.sig_base.specs.declared.value.Outcome.TheVariants.{Good, Bad}
use Rattle.signal_model.specs.Recipes.{Expression, formula, host}
use Rattle.signal_model.specs.Signals.{Signals, Stands, IsGone, IsCell, IsComputed, standing}
use Rattle.signal_model.specs.Values.{Seen}
use Rattle.signal_model.specs.Settling.{Run}

-- a run, and the signals as they stood at its moment
pub record Moment : Type 0 where
  pub signals : Signals
  pub run : Run

-- the runs of a settling, over the signals of that moment
abbrev pub moments : Signals → List Run → List Moment
moments w runs = map (λ r. record { signals = w; run = r }) runs

-- whether it is the host formula at a place
abbrev pub is_host : ℕ → Expression → Bool
is_host place (formula row t) = false
is_host place (host p) = p == place

-- whether what stands there is computed by it
abbrev pub asks_host : ℕ → Stands → Bool
asks_host place IsGone = false
asks_host place (IsCell c) = false
asks_host place (IsComputed c) = is_host place c.recipe.expression

-- whether an outcome is a value
abbrev pub is_good : Outcome → Bool
is_good (Good v) = true
is_good (Bad e) = false

-- how many reads were good
abbrev pub good_reads : List Seen → ℕ
good_reads [] = 0
good_reads (s ∷ ss) = (if is_good s.outcome then 1 else 0) + good_reads ss

-- how often one run asks it: once, and once more after each good read
abbrev pub asks_in : ℕ → Moment → ℕ
asks_in place m = if asks_host place (standing m.signals m.run.name) then good_reads m.run.evaluation.reads + 1 else 0

-- how often runs ask it
abbrev pub asks_of : ℕ → List Moment → ℕ
asks_of place [] = 0
asks_of place (m ∷ ms) = asks_in place m + asks_of place ms
