-- What the calls of a numbered tree see of it.
use Rattle.std.specs.Prelude.{ℕ, suc, List, [], ◌∷◌, length, Option, Some, None, if◌then◌else◌}
use Rattle.std.specs.Str.{bytes_eq}
use Rattle.html_out.specs.Html.{is_void}
use Rattle.page_model.specs.Forest.{Forest, count, depth, on, kids, parent, label_in}
use Rattle.page_model.specs.Labels.{Root, Text, Element, Kind}
use Rattle.page_model.specs.Edits.{siblings}
use Rattle.page_model.specs.Replay.{Answer, Done, Refused, below_root}
use Rattle.page_model.specs.Pages.{place_in}
use Rattle.page_tree.specs.declared.tree.NodeKind.{NodeKind}
use Rattle.page_tree.specs.declared.tree.NodeKind.TheVariants as node_kind

-- what a label's node is; an element that can't hold children is a void one
abbrev pub kind_of : Kind → NodeKind
kind_of Root = node_kind.Root
kind_of (Text t) = node_kind.Text
kind_of (Element name attributes) = if is_void name then node_kind.Void else node_kind.Element

-- what the node of a number is
abbrev pub kind_at : ℕ → Forest Kind → Option NodeKind
kind_at n now = if on n now then Some (kind_of (label_in Root n now)) else None

-- how many children the node of a number has
abbrev pub child_count : ℕ → Forest Kind → Option ℕ
child_count n now = if on n now then Some (count (kids n now)) else None

-- how many steps the node of a number stands below the root
abbrev pub depth_at : ℕ → Forest Kind → Option ℕ
depth_at n now = if on n now then Some (depth n now) else None

-- the parent of a node below the root, and its place there
abbrev pub place_at : ℕ → Forest Kind → Option (ℕ × ℕ)
place_at n now = if below_root n now then Some (parent n now, place_in n (siblings (kids (parent n now) now))) else None

-- how many attributes an element has
abbrev pub attribute_count : Kind → Option ℕ
attribute_count (Element name attributes) = Some (length attributes)
attribute_count label = None

-- one place further
abbrev pub after_one : Option ℕ → Option ℕ
after_one None = None
after_one (Some i) = Some (suc i)

-- the place of the first attribute of that name
abbrev pub place_named : List ℕ → List (List ℕ × List ℕ) → Option ℕ
place_named name [] = None
place_named name (a ∷ rest) = if bytes_eq a.0 name then Some 0 else after_one (place_named name rest)

-- the place of an element's attribute of that name
abbrev pub attribute_place : List ℕ → Kind → Option ℕ
attribute_place name (Element element attributes) = place_named name attributes
attribute_place name label = None

-- the value of the first attribute of that name
abbrev pub value_named : List ℕ → List (List ℕ × List ℕ) → Option (List ℕ)
value_named name [] = None
value_named name (a ∷ rest) = if bytes_eq a.0 name then Some a.1 else value_named name rest

-- the value of an element's attribute of that name
abbrev pub attribute_value : List ℕ → Kind → Option (List ℕ)
attribute_value name (Element element attributes) = value_named name attributes
attribute_value name label = None

-- what a text says
abbrev pub text_in : Kind → Option (List ℕ)
text_in (Text t) = Some t
text_in label = None

-- an operation that isn't refused
abbrev pub IsDone : Answer → Type 0
IsDone (Done t) = Unit {0}
IsDone (Refused why) = ⊥
