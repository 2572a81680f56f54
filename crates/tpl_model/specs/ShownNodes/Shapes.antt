-- The shape of a page as the code has it, and what is known of the nodes of it that stand on a page already.
use Rattle.std.specs.Prelude.{ℕ, List, [], ◌∷◌, map, Option, Some, None}
use Rattle.std.specs.Box.{box_value}
use Rattle.page_model.specs.Forest.{Forest, none, node, after}
use Rattle.page_model.specs.Labels as label
use Rattle.tpl_model.specs.declared.mark.Child.{Child}
use Rattle.tpl_model.specs.declared.mark.Child.TheVariants as child
use Rattle.tpl_model.specs.declared.mark.Mark.{Mark}
use Rattle.tpl_model.specs.ShownNodes.Addresses.{address_of}
use Rattle.tpl_model.specs.declared.shown.Look.{Look}
use Rattle.tpl_model.specs.declared.shown.Look.TheVariants as look
use Rattle.tpl_model.specs.declared.shown.Shown.{Shown}
use Rattle.tpl_model.specs.declared.shown.Shown.TheOpen.{Shown-F}
use Rattle.tpl_model.specs.declared.shown.Shown.TheFolds.{fold-Shown}

-- what a node below the root is and says
abbrev pub look_of : Look → label.Look
look_of (look.Text t) = label.Text t
look_of (look.Element name attributes) = label.Element name attributes.items

-- what a node is and says; the root says nothing
abbrev pub look_at : Option Look → label.Look
look_at None = label.Root
look_at (Some l) = look_of l

-- trees one after the other
abbrev pub all_after : List (Forest label.Look) → Forest label.Look
all_after [] = none
all_after (t ∷ ts) = after t (all_after ts)

-- a node, over the trees of its children
abbrev pub shown_node : Shown-F (Forest label.Look) → Forest label.Look
shown_node s = node (address_of s.address) (look_of s.look) (all_after s.children.items) none

-- the tree of a node that is shown
unfoldable pub shown_tree : Shown → Forest label.Look
shown_tree = fold-Shown (Forest label.Look) shown_node

-- the trees of nodes one after the other
abbrev pub all_shown : List Shown → Forest label.Look
all_shown xs = all_after (map shown_tree xs)

-- ---- nodes that stand on a page already

-- a child that stays under its number, or one that comes with all below it
pub data Next : Type 0 where
  stays : (number : ℕ) → Next
  comes : (tree : Forest label.Look) → Next

-- a child as the code has it
abbrev pub child_of : Child → Next
child_of (child.Kept n) = stays n
child_of (child.New s) = comes (shown_tree (box_value s))

-- a node that stands there: its number, what it says next, and its next children
pub record Marked : Type 0 where
  pub number : ℕ
  pub look : label.Look
  pub children : List Next

-- a mark as the code has it
abbrev pub mark_of : Mark → Marked
mark_of m = record { number = m.number; look = look_at m.look; children = map child_of m.children.items }
