-- A page with a button in a box, and handlers at both.
use Rattle.std.specs.Prelude.{◌≡◌, ℕ, List, [], ◌∷◌, None, Some, codes}
use Rattle.std.proofs.Common.{refl}
use Rattle.page_model.specs.Addresses.{address}
use Rattle.page_model.specs.Forest.{Forest, none, node}
use Rattle.page_model.specs.Labels.{Root, Text, Element, Look}
use Rattle.page_model.specs.Pages.{NumberedPage, tree_of}
use Rattle.event_model.specs.declared.awaited.Awaited.{Awaited}
use Rattle.event_model.specs.Handlers.{fired_on}
use Rattle.event_model.specs.Ways.{line_in, line_on, way}

-- the box comes from line 1, the button from line 2, and its text from line 3
abbrev pub shown : Forest (ℕ × Look)
shown =
    node (address 1 None) (1, Element (codes "div") [])
    (node (address 2 None) (2, Element (codes "button") []) (node (address 3 None) (3, Text (codes "0")) none none) none) none

abbrev pub page : NumberedPage
page = record { nodes = node 0 (0, Root) shown none; next = 4 }

-- an event at the text goes to the button and then to the box
pub way_up : way 3 (tree_of page) ≡ 3 ∷ 2 ∷ 1 ∷ []
unfolding way address
way_up = refl

-- at the root it goes nowhere, nor where there is no node
pub no_way : way 0 (tree_of page) ≡ []
unfolding way address
no_way = refl

pub no_node : way 9 (tree_of page) ≡ []
unfolding way address
no_node = refl

-- the lines of the nodes
pub lines : (line_on page 1 ∷ line_on page 2 ∷ line_on page 3 ∷ []) ≡ 1 ∷ 2 ∷ 3 ∷ []
unfolding line_in address
lines = refl

-- a row's key leaves the line as it is
pub keyed : line_in (address 5 (Some [])) ≡ 5
unfolding line_in address
keyed = refl

-- two clicks wait at the box and one at the button, for pages of template 0; one waits for another event, and one on pages of another template
abbrev pub handlers : List Awaited
handlers =
    record { template = 0; line = 1; event = codes "click" }
    ∷ record { template = 0; line = 2; event = codes "click" }
    ∷ record { template = 0; line = 2; event = codes "input" }
    ∷ record { template = 1; line = 2; event = codes "click" }
    ∷ record { template = 0; line = 1; event = codes "click" }
    ∷ []

-- the innermost first, and at one node in the order of making
pub clicked : fired_on handlers page 0 3 (codes "click")
    ≡ record { node = 2; handler = 1 } ∷ record { node = 1; handler = 0 } ∷ record { node = 1; handler = 4 } ∷ []
unfolding way line_in address
clicked = refl

-- at the box the button's don't run
pub clicked_outside : fired_on handlers page 0 1 (codes "click") ≡ record { node = 1; handler = 0 } ∷ record { node = 1; handler = 4 } ∷ []
unfolding way line_in address
clicked_outside = refl

-- on a page of the other template its own handler runs alone
pub clicked_elsewhere : fired_on handlers page 1 3 (codes "click") ≡ record { node = 2; handler = 3 } ∷ []
unfolding way line_in address
clicked_elsewhere = refl

-- nothing waits for this
pub unheard : fired_on handlers page 0 3 (codes "focus") ≡ []
unfolding way line_in address
unheard = refl
