-- The way of an event up a page, step by step.
use Rattle.std.specs.Prelude.{ℕ, List}
use Rattle.page_model.specs.Forest.{Forest}
use Rattle.page_model.specs.Labels.{Kind}
use Rattle.event_model.specs.Ways.{way_within}

-- a node, its parent, and so on, at most so many steps
unfoldable pub steps_up : ℕ → ℕ → Forest Kind → List ℕ
steps_up steps n now = way_within steps n now
