-- Handlers of events: what each waits for, and what it does.
use Rattle.std.specs.Prelude.{ℕ, Bool, false, List, [], map, slice_get, Option, Some, None}
use Rattle.effect_model.specs.Bodies.{Body}
use Rattle.effect_tables.specs.Bodies.{no_body}
use Rattle.event_model.specs.declared.awaited.Awaited.{Awaited}
use Rattle.event_model.specs.declared.fired.Fired.{Fired}
use Rattle.event_model.specs.Handlers.{fired_on}
use Rattle.page_model.specs.Pages.{tree_of}
use Rattle.page_model.specs.Replay.{below_root}
use Rattle.live_model.specs.Pages.{Page}

-- a handler
pub record Handler : Type 0 where
  pub awaited : Awaited
  pub body : Body

-- the body of a handler, and an empty one where there is none
abbrev pub body_or_none : Option Handler → Body
body_or_none None = no_body
body_or_none (Some h) = h.body

-- the body of the handler at a place
abbrev pub handler_body : List Handler → ℕ → Body
handler_body hs i = body_or_none (slice_get hs i)

-- the handlers that run as an event is fired at a node of a page, if it lives
abbrev pub fired_of : List Handler → Option Page → ℕ → List ℕ → List Fired
fired_of hs None node event = []
fired_of hs (Some p) node event = fired_on (map (λ (h : Handler). h.awaited) hs) p.content p.template node event

-- the body of a handler that runs, and the node at which it does
pub record Handling : Type 0 where
  pub node : ℕ
  pub body : Body

-- the bodies of those that run
abbrev pub handlings_of : List Handler → List Fired → List Handling
handlings_of hs xs = map (λ (x : Fired). record { node = x.node; body = handler_body hs x.handler }) xs

-- whether a page, if it lives, has a node of this number below its root
abbrev pub has_node : Option Page → ℕ → Bool
has_node None node = false
has_node (Some p) node = below_root node (tree_of p.content)
