-- A source that was waited for, once it was visited.
use Rattle.std.specs.Prelude.{◌≡◌, ℕ, ◌&&◌, not, Bool, true, List, Option, Some}
use Rattle.signal_model.specs.Signals.{is_in}
use Rattle.signal_model.specs.Memos.{Source, holds_cycle}
use Rattle.sig_graph.specs.Looks.{has_moved}
use Rattle.sig_graph.specs.SourceLooks.{named}
use Rattle.sig_graph.specs.States.{State}

-- a kept source that was visited, and whether it has moved, where who keeps it doesn't hold `cycle`
pub record IsVisitedSource (s : State) (visited : List ℕ) (id : ℕ) (o : Option Source) (moves : Bool) : Type 0 where
  pub name : ℕ
  pub named : named o ≡ Some name
  pub seen : is_in name visited ≡ true
  pub moved : moves ≡ (not (holds_cycle s.memos id) && has_moved s o)
