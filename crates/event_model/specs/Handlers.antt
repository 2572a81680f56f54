-- Handlers of events, and which of them run as one is fired.
use Rattle.std.specs.Prelude.{ℕ, suc, ◌==◌, ◌&&◌, Bool, List, [], ◌∷◌, ◌++◌, map, if◌then◌else◌}
use Rattle.std.specs.List.{flat_map}
use Rattle.std.specs.Str.{bytes_eq}
use Rattle.page_model.specs.Pages.{NumberedPage, tree_of}
use Rattle.event_model.specs.declared.awaited.Awaited.{Awaited}
use Rattle.event_model.specs.declared.fired.Fired.{Fired}
use Rattle.event_model.specs.Ways.{line_on, way}

-- whether two are the same: the template, the line and the event
abbrev pub same_awaited : Awaited → Awaited → Bool
same_awaited a b = a.template == b.template && (a.line == b.line && bytes_eq a.event b.event)

-- the handlers that wait for this, in the order of making; the first of them all has this place
abbrev pub waiting_from : ℕ → Awaited → List Awaited → List ℕ
waiting_from i what [] = []
waiting_from i what (h ∷ hs) = (if same_awaited h what then i ∷ [] else []) ++ waiting_from (suc i) what hs

-- those that run at a node where this is awaited
abbrev pub fired_at : List Awaited → Awaited → ℕ → List Fired
fired_at hs what n = map (λ i. record { node = n; handler = i }) (waiting_from 0 what hs)

-- what is awaited at a node of a page of a template
abbrev pub awaited_at : NumberedPage → ℕ → List ℕ → ℕ → Awaited
awaited_at p template event n = record { template = template; line = line_on p n; event = event }

-- The handlers that run as an event is fired at a node of a page of a template: those that wait at the node, then at its parent, and so on
-- up to a child of the root.
abbrev pub fired_on : List Awaited → NumberedPage → ℕ → ℕ → List ℕ → List Fired
fired_on hs p template n event = flat_map (λ m. fired_at hs (awaited_at p template event m) m) (way n (tree_of p))
