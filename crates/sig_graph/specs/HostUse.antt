-- Which host formulas the computeds of a graph ask.
use Rattle.std.specs.Prelude.{◌≡◌, ℕ, ◌||◌, Bool, false, List, [], ◌∷◌}
use Rattle.signal_model.specs.Signals as signals
use Rattle.signal_model.specs.Signals.{Signals, IsComputed, standing}
use Rattle.signal_model.specs.Asks.{is_host}
use Rattle.sig_nodes.specs.Answers.{HasFewSlots}

-- each host formula that a computed asks has few arguments
pub record HaveFewSlots (w : Signals) : Type 0 where
  pub each : (n : ℕ) (c : signals.Computed) → standing w n ≡ IsComputed c → HasFewSlots c.recipe.expression c.recipe.slots

-- whether one of these computeds asks the host formula at a place
abbrev pub some_asks : ℕ → List signals.Computed → Bool
some_asks place [] = false
some_asks place (c ∷ cs) = is_host place c.recipe.expression || some_asks place cs

-- whether a computed that stands does
abbrev pub uses_host : Signals → ℕ → Bool
uses_host w place = some_asks place w.computeds
