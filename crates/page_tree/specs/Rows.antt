-- The rows of a table by number, and the tree that they stand for.
use Rattle.std.specs.Prelude.{ℕ, zero, suc, ◌==◌, ◌≡◌, Bool, true, false, List, [], ◌∷◌, Option, Some, None, if◌then◌else◌}
use Rattle.indexmap.specs.IndexMap.{IndexMap, get}
use Rattle.std.specs.Prelude.{nat_eq}
use Rattle.page_model.specs.Forest.{Forest, none, node, on}
use Rattle.page_model.specs.Labels.{Root, Text, Element, Kind}
use Rattle.page_model.specs.Edits.{put_at, siblings, taken}
use Rattle.page_model.specs.Trees.{IsTree}
use Rattle.page_tree.specs.declared.table.Label.{Label}
use Rattle.page_tree.specs.declared.table.Label.TheVariants as label
use Rattle.page_tree.specs.declared.table.Node.{Node}

-- what a number leads to: the node's label, its parent and its children
pub record Row : Type 0 where
  pub label : Kind
  pub parent : ℕ
  pub children : List ℕ

-- a label of the program as one of the definitions
abbrev pub label_of : Label → Kind
label_of label.Root = Root
label_of (label.Text t) = Text t
label_of (label.Element name attributes) = Element name attributes.items

-- a node's label, and the root's where there is no such node
abbrev pub label_or_root : Option Label → Kind
label_or_root None = Root
label_or_root (Some l) = label_of l

-- a row of what a node of the program has
abbrev pub row_with : Label → ℕ → List ℕ → Row
row_with x above children = record { label = label_of x; parent = above; children = children }

-- a node of the program as a row
abbrev pub row_of : Node → Row
row_of n = row_with n.label n.parent n.children.items

-- a numbered node of the program as a numbered row
abbrev pub numbered_row : ℕ × Node → ℕ × Row
numbered_row n = (n.0, row_of n.1)

-- the row where there is a node
abbrev pub row_in : Option Node → Option Row
row_in None = None
row_in (Some n) = Some (row_of n)

-- the row of a number
abbrev pub look : {S : Type 0} → IndexMap ℕ Node S → ℕ → Option Row
look nodes n = row_in (get nat_eq nodes n)

-- a node of that row before others, with what stands below it
abbrev pub grown : ℕ → Option Row → (List ℕ → Forest Kind) → Forest Kind → Forest Kind
grown n None below rest = rest
grown n (Some r) below rest = node n r.label (below r.children) rest

-- the nodes of these numbers
abbrev pub grow : (ℕ → Option Row) → (List ℕ → Forest Kind) → List ℕ → Forest Kind
grow rows below [] = none
grow rows below (n ∷ ns) = grown n (rows n) below (grow rows below ns)

-- the nodes of these numbers with what stands below them, on so many levels
abbrev pub build : ℕ → (ℕ → Option Row) → List ℕ → Forest Kind
build zero rows ns = none
build (suc levels) rows ns = grow rows (build levels rows) ns

-- the tree of a table: the root, whose number is 0, and at most 32 levels below it
unfoldable pub tree_in : (ℕ → Option Row) → Forest Kind
tree_in rows = build 33 rows (0 ∷ [])

-- each node of these siblings has its row
abbrev pub HaveRows : (ℕ → Option Row) → ℕ → Forest Kind → Type 0
HaveRows rows above none = Unit {0}
HaveRows rows above (node n x k r) =
    (rows n ≡ Some (record { label = x; parent = above; children = siblings k })) × HaveRows rows n k × HaveRows rows above r

-- there is a row
abbrev pub is_row : Option Row → Bool
is_row None = false
is_row (Some r) = true

-- a table that stands for a tree: each node has its row, and there are no others
pub record IsKept (rows : ℕ → Option Row) : Type 0 where
  pub tree : IsTree (tree_in rows)
  pub held : HaveRows rows 0 (tree_in rows)
  pub just : (n : ℕ) → is_row (rows n) ≡ true → on n (tree_in rows) ≡ true

-- the row of one number edited
abbrev pub edited : ℕ → (Row → Row) → ℕ → Option Row → Option Row
edited id edit n None = None
edited id edit n (Some r) = Some (if n == id then edit r else r)

-- a row with another label
abbrev pub with_label : Kind → Row → Row
with_label x r = record r { label = x }

-- a row with other children
abbrev pub with_children : (List ℕ → List ℕ) → Row → Row
with_children edit r = record r { children = edit r.children }

-- a label's attributes
abbrev pub attributes_of : Kind → List (List ℕ × List ℕ)
attributes_of (Element name attributes) = attributes
attributes_of x = []

-- a label with other attributes, where it is an element's
abbrev pub reattributed : (List (List ℕ × List ℕ) → List (List ℕ × List ℕ)) → Kind → Kind
reattributed edit Root = Root
reattributed edit (Text t) = Text t
reattributed edit (Element name attributes) = Element name (edit attributes)

-- a row with other attributes, where it is an element's
abbrev pub with_attributes : (List (List ℕ × List ℕ) → List (List ℕ × List ℕ)) → Row → Row
with_attributes edit r = record r { label = reattributed edit r.label }

-- the row of one number written anew
abbrev pub written : ℕ → Row → ℕ → Option Row → Option Row
written id r n o = if n == id then Some r else o

-- the numbers of a row's children
abbrev pub children_of : Option Row → List ℕ
children_of None = []
children_of (Some r) = r.children

-- the rows without that of a number
abbrev pub gone : ℕ → (ℕ → Option Row) → ℕ → Option Row
gone id rows n = if n == id then None else rows n

-- the rows without those of these numbers, each with those of its children
abbrev pub cut_each : (List ℕ → (ℕ → Option Row) → ℕ → Option Row) → List ℕ → (ℕ → Option Row) → ℕ → Option Row
cut_each below [] rows = rows
cut_each below (n ∷ ns) rows = cut_each below ns (below (children_of (rows n)) (gone n rows))

-- the rows without those of these numbers and of all below them, on so many levels
abbrev pub cut : ℕ → List ℕ → (ℕ → Option Row) → ℕ → Option Row
cut zero ns rows = rows
cut (suc levels) ns rows = cut_each (cut levels) ns rows

-- the number of a row's parent
abbrev pub parent_of : Option Row → ℕ
parent_of None = 0
parent_of (Some r) = r.parent

-- the rows where a child stands at another place
abbrev pub moved_row : Option Row → ℕ → ℕ → (ℕ → Option Row) → ℕ → Option Row
moved_row None id place rows n = rows n
moved_row (Some r) id place rows n = edited r.parent (with_children (λ ns. put_at place id (taken id ns))) n (rows n)

-- the same, by the row of the child
abbrev pub moved : ℕ → ℕ → (ℕ → Option Row) → ℕ → Option Row
moved id place rows n = moved_row (rows id) id place rows n

-- the rows where the parent of a number has it no more among its children
abbrev pub parted : ℕ → (ℕ → Option Row) → ℕ → Option Row
parted id rows n = edited (parent_of (rows id)) (with_children (taken id)) n (rows n)

-- the rows without a node and all below it
abbrev pub removed_row : Option Row → ℕ → (ℕ → Option Row) → ℕ → Option Row
removed_row None id rows n = rows n
removed_row (Some r) id rows n = cut 32 (children_of (parted id rows id)) (gone id (parted id rows)) n

-- the same, by the row of the node
abbrev pub removed : ℕ → (ℕ → Option Row) → ℕ → Option Row
removed id rows n = removed_row (rows id) id rows n

-- one step more than from the parent of a row
abbrev pub climbed_from : Option Row → (ℕ → ℕ) → ℕ
climbed_from None steps = 0
climbed_from (Some r) steps = suc (steps r.parent)

-- how many steps lead up to the root, at most so many
abbrev pub climbed : ℕ → (ℕ → Option Row) → ℕ → ℕ
climbed zero rows n = 0
climbed (suc levels) rows n = if n == 0 then 0 else climbed_from (rows n) (climbed levels rows)
