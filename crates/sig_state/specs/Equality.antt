-- When a set changes nothing.
use Rattle.std.specs.Prelude.{◌≡◌, ◌<◌, ℕ, Bool, false, List, Some}
use Rattle.sig_base.specs.declared.value.Value.{Value}
use Rattle.signal_model.specs.Signals.{Stands, IsCell}
use Rattle.sig_nodes.specs.Answers.{rule_here}
use Rattle.effect_model.specs.Acts.{are_alike}

-- whether a cell's equality calls a value the same as the one that it has, by the slacks of the rules
abbrev pub is_alike_here : List ℕ → Stands → Value → Bool
is_alike_here slacks (IsCell c) v = are_alike slacks c.rule c.value v
is_alike_here slacks _ v = false

-- the rule of what stands there, if it has one, is one of so many
pub record IsRuled (rules : ℕ) (s : Stands) : Type 0 where
  pub below : (rule : ℕ) → rule_here s ≡ Some rule → rule < rules
