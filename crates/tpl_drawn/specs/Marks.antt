-- The nodes of a shape that have a number already.
use Rattle.std.specs.Prelude.{◌≡◌, ℕ, Option, Some, None, List, [], ◌∷◌, ◌++◌}
use Rattle.page_model.specs.Forest.{Forest, none, node}
use Rattle.page_model.specs.Labels.{Root, Look}
use Rattle.tpl_model.specs.ShownNodes.Addresses.{address_of}
use Rattle.tpl_model.specs.ShownNodes.Shapes.{Marked, Next, comes, stays}
use Rattle.tpl_model.specs.declared.shown.Address.{Address}

-- each address has the number that is known of it
abbrev pub Knows : (Address → Option ℕ) → (ℕ → Option ℕ) → Type 0
Knows number known = (a : Address) → number a ≡ known (address_of a)

-- a child stays under its number, or comes
abbrev pub next_of : Option ℕ → Forest Look → Next
next_of (Some n) tree = stays n
next_of None tree = comes tree

-- siblings as the children of a node that stands
abbrev pub children_in : (ℕ → Option ℕ) → Forest Look → List Next
children_in known none = []
children_in known (node a x k r) = next_of (known a) (node a x k none) ∷ children_in known r

-- a node is marked behind those below it where it has a number; below a new node there are none
abbrev pub marked_at : Option ℕ → Look → List Next → List Marked → List Marked
marked_at (Some n) x children below = below ++ record { number = n; look = x; children = children } ∷ []
marked_at None x children below = []

-- the marks of nodes and of all below them
abbrev pub marks_in : (ℕ → Option ℕ) → Forest Look → List Marked
marks_in known none = []
marks_in known (node a x k r) = marked_at (known a) x (children_in known k) (marks_in known k) ++ marks_in known r

-- the mark of the root, over its children
abbrev pub root_mark : (ℕ → Option ℕ) → Forest Look → Marked
root_mark known below = record { number = 0; look = Root; children = children_in known below }
