-- A subtree of the program as a tree, and the rows that it brings.
use Rattle.std.specs.Prelude.{ℕ, List, [], ◌∷◌, ◌++◌, Option}
use Rattle.page_model.specs.Forest.{Forest, none, node, after}
use Rattle.page_model.specs.Labels.{Root, Text, Element, Kind}
use Rattle.page_model.specs.Edits.{siblings}
use Rattle.page_model.specs.Replay.{Op, OpInsert}
use Rattle.page_tree.specs.declared.sub.Sub.{Sub}
use Rattle.page_tree.specs.declared.sub.Sub.TheOpen.{Sub-F}
use Rattle.page_tree.specs.declared.sub.Sub.TheFolds.{fold-Sub}
use Rattle.page_tree.specs.Rows.{Row, written}

-- trees one after the other
abbrev pub side_by_side : List (Forest Kind) → Forest Kind
side_by_side [] = none
side_by_side (t ∷ ts) = after t (side_by_side ts)

-- one node, with the trees of its children in their places
abbrev pub sub_node : Sub-F (Forest Kind) → Forest Kind
sub_node (Sub-F.Text n t) = node n (Text t) none none
sub_node (Sub-F.Element n name attributes subs) = node n (Element name attributes.items) (side_by_side subs.items) none

-- the tree of a subtree
unfoldable pub sub_tree : Sub → Forest Kind
sub_tree = fold-Sub (Forest Kind) sub_node

-- the number of the first node
abbrev pub tree_number : Forest Kind → ℕ
tree_number none = 0
tree_number (node n x k r) = n

-- the insertion of a tree's first node, with all below it
abbrev pub insertion : ℕ → ℕ → Forest Kind → Op
insertion p i none = OpInsert p i 0 Root none
insertion p i (node n x k r) = OpInsert p i n x k

-- the rows of siblings below a parent, each node before those below it
abbrev pub rows_of : ℕ → Forest Kind → List (ℕ × Row)
rows_of above none = []
rows_of above (node n x k r) = (n, record { label = x; parent = above; children = siblings k }) ∷ (rows_of n k ++ rows_of above r)

-- the row of a number after these rows are written one after the other
abbrev pub after_rows : ℕ → List (ℕ × Row) → Option Row → Option Row
after_rows q [] o = o
after_rows q (r ∷ rs) o = after_rows q rs (written r.0 r.1 q o)
