-- A page that is made on the outcomes that are known.
use Rattle.std.specs.Prelude.{◌≡◌, ℕ, ◌+◌, ◌&&◌, not, Bool, true, false, List, [], ◌++◌, length, map, slice_get, Option, Some, None, option_map}
use Rattle.sig_base.specs.Tables.{Table}
use Rattle.sig_base.specs.declared.rows.Row.{Row}
use Rattle.sig_base.specs.declared.value.Outcome.{Outcome}
use Rattle.sig_formula.specs.Trees.{Tree, tree}
use Rattle.sig_formula.specs.declared.formula.Formula.{Formula}
use Rattle.sig_formula.specs.declared.formula.RowRef.{RowRef}
use Rattle.signal_model.specs.Recipes.{Recipe, formula, no_hosts, recipe_answer}
use Rattle.sig_base.specs.declared.value.Known.{Known}
use Rattle.sig_base.specs.declared.value.Step.{Step}
use Rattle.sig_base.specs.declared.value.Value.TheVariants as value
use Rattle.sig_base.specs.declared.value.Outcome.TheVariants.{Good}
use Rattle.signal_model.specs.Sound.{names_of}
use Rattle.signal_model.specs.Values.{Evaluation}
use Rattle.page_model.specs.Forest.{Forest, node, none, after, keys}
use Rattle.page_model.specs.Addresses.{address}
use Rattle.page_model.specs.Labels.{Text, Element, Kind, Look, present, shown, with_value}
use Rattle.page_tree.specs.Subs.{side_by_side, sub_tree}
use Rattle.tpl_model.specs.Lines.{Block}
use Rattle.tpl_model.specs.Shapes.{Evaluating, Here, Showing, attribute_value, attributes_of, attributes_told, key_here, node_text, nothing, row_here}
use Rattle.tpl_model.specs.Shapes.{attempted, is_fault, rows_from, shown_block, then_shown, formula_shown, within}
use Rattle.tpl_model.specs.Sources.{counted, first_missing, in_order, on_known}
use Rattle.tpl_scratch.specs.declared.nodes.Nodes.{Nodes}
use Rattle.tpl_scratch.specs.declared.show.Attributes.{Attributes}
use Rattle.tpl_scratch.specs.declared.show.Branches.{Branches}
use Rattle.tpl_scratch.specs.declared.stop.Stop.{Stop}
use Rattle.tpl_scratch.specs.declared.stop.Stop.TheVariants as stop

-- a formula whose slots are the first so many names
abbrev pub recipe_on : ℕ → Option RowRef → Tree → Recipe
recipe_on names row f = record { expression = formula row f; slots = counted names 0 }

-- what a formula answers to the values that it has read
abbrev pub answered : List (Option Outcome) → Option RowRef → Tree → List Known → Step
answered known row f read = recipe_answer no_hosts (recipe_on (length known) row f) read

-- the name is needed; or memory ran out
abbrev pub IsNeed : List (Option Outcome) → ℕ → Stop → Type 0
IsNeed known n (stop.Ask i) = (i ≡ n) × (slice_get known n ≡ Some None)
IsNeed known n stop.NoMemory = Unit {0}

-- of these names the one that stops the making is the first that isn't known; or memory ran out
abbrev pub Stops : List (Option Outcome) → List ℕ → Stop → Type 0
Stops known reads (stop.Ask i) = first_missing known reads ≡ Some i
Stops known reads stop.NoMemory = Unit {0}

-- all that an evaluation reads is known, and it comes to this
pub record IsFound (known : List (Option Outcome)) (e : Evaluation) (o : Outcome) : Type 0 where
  pub reads : first_missing known (names_of e.reads) ≡ None
  pub outcome : o ≡ e.outcome

-- numbered nodes in document order, and the next number
pub record Numbered : Type 0 where
  pub nodes : Forest Kind
  pub next : ℕ

-- the nodes that are held
abbrev pub nodes_of : Nodes → Numbered
nodes_of n = record { nodes = side_by_side (map sub_tree n.subs.items); next = n.next }

-- with the nodes of a shape behind them, under the next numbers
abbrev pub with_nodes : Numbered → Forest Look → Numbered
with_nodes n shape = record { nodes = after n.nodes (shown (in_order n.next shape)); next = n.next + length (keys shape) }

-- no children so far, of the element that is added next
abbrev pub no_children : Numbered → Numbered
no_children n = record { nodes = none; next = n.next + 1 }

-- with an element behind them, whose children have the next numbers
abbrev pub with_node : Numbered → List ℕ → List (List ℕ × List ℕ) → Numbered → Numbered
with_node n name attributes children =
    record { nodes = after n.nodes (node n.next (Element name attributes) children.nodes none); next = children.next }

-- no nodes, where the next ones have the same numbers
abbrev pub beside : Numbered → Numbered
beside n = record { nodes = none; next = n.next }

-- with nodes behind them that were made beside them
abbrev pub with_all : Numbered → Numbered → Numbered
with_all n more = record { nodes = after n.nodes more.nodes; next = more.next }

-- with nodes behind them that were made beside them, unless these ended
abbrev pub unless_ended : Bool → Numbered → Numbered → Numbered
unless_ended true n more = n
unless_ended false n more = with_all n more

-- All that is read for these nodes is known, whether a line met a fault is told, and the nodes are added, unless showing ended at a fault: then
-- those that were added are of no use.
pub record Shows (known : List (Option Outcome)) (ends : Bool) (x : Showing) (before now : Numbered) (failed : Bool) : Type 0 where
  pub reads : first_missing known x.reads ≡ None
  pub fault : failed ≡ x.failed
  pub nodes : (ends && failed) ≡ false → now ≡ with_nodes before x.nodes

-- ---- parts of what lines show

-- attributes, each a name and a formula
abbrev pub attributes_in : List (List ℕ × Formula) → List (List ℕ × Tree)
attributes_in xs = map (λ (a : List ℕ × Formula). (a.0, tree a.1)) xs

-- all that attributes read is known, whether one met a fault is told, and these are present, unless showing ended at a fault
pub record HasAttributes (known : List (Option Outcome)) (ends : Bool) (row : Option RowRef) (xs : List (List ℕ × Tree)) (found : Attributes)
    : Type 0 where
  pub told : (n : Numbered) → Shows known ends (attributes_told ends (on_known known) row xs) n n found.failed
  pub values : (ends && found.failed) ≡ false → found.values.items ≡ present (attributes_of (on_known known) row xs)

-- a formula came to this, and its attribute was put behind others where it is present
pub record PutsAttribute (known : List (Option Outcome)) (row : Option RowRef) (name : List ℕ) (f : Tree) (before now : List (List ℕ × List ℕ))
    (failed : Bool) : Type 0 where
  pub outcome : Outcome
  pub found : IsFound known (on_known known row f) outcome
  pub put : now ≡ before ++ with_value name (attribute_value outcome) []
  pub fault : failed ≡ is_fault outcome

-- a text
abbrev pub text_shown : Evaluating → Option Here → ℕ → Tree → Showing
text_shown evaluate here n f =
    let e = evaluate (row_here here) f in
    formula_shown e (node (address n (key_here here)) (Text (node_text e.outcome)) none none)

-- an element
abbrev pub element_shown : Evaluating → Bool → Option Here → ℕ → List ℕ → List (List ℕ × Tree) → Block → Showing
element_shown evaluate ends here n name attributes inner =
    within (address n (key_here here)) (Element name (attributes_of evaluate (row_here here) attributes))
    (then_shown ends (attributes_told ends evaluate (row_here here) attributes) (shown_block evaluate ends here inner))

-- whether an outcome shows a branch, the first or the other
abbrev pub shows_branch : Outcome → Bool → Bool
shows_branch (Good (value.Bool true)) first = first
shows_branch (Good (value.Bool false)) first = not first
shows_branch _ first = false

-- the branches of a choice that are shown, as its test was evaluated; all that it reads is known
pub record AreBranches (known : List (Option Outcome)) (e : Evaluation) (b : Branches) : Type 0 where
  pub outcome : Outcome
  pub found : IsFound known e outcome
  pub one : b.one ≡ shows_branch outcome true
  pub other : b.other ≡ shows_branch outcome false
  pub failed : b.failed ≡ is_fault outcome

-- lines, or nothing
abbrev pub shown_where : Evaluating → Bool → Option Here → Bool → Block → Showing
shown_where evaluate ends here true lines = shown_block evaluate ends here lines
shown_where evaluate ends here false lines = nothing

-- lines for rows from a place on
abbrev pub rows_shown : Evaluating → Bool → Block → Table → ℕ → List Row → Showing
rows_shown evaluate ends inner t i rs = rows_from ends (λ h. shown_block evaluate ends (Some h) inner) t i rs

-- the rows that an outcome is
abbrev pub rows_of : Outcome → Option Table
rows_of (Good (value.Rows t)) = Some t
rows_of _ = None

-- lines for each row, where there are rows
abbrev pub each_shown : Evaluating → Bool → Option Table → Block → Showing
each_shown evaluate ends None inner = nothing
each_shown evaluate ends (Some t) inner = rows_shown evaluate ends inner t 0 t.rows

-- lines unless they meet a fault, and otherwise others
abbrev pub attempt_shown : Evaluating → Bool → Option Here → Block → Block → Showing
attempt_shown evaluate ends here first second =
    attempted (shown_block evaluate true here first) (shown_block evaluate ends here second)

-- the row at a place
abbrev pub IsHere : Table → ℕ → Here → Type 0
IsHere t place h = (option_map (λ (r : Row). r.key) (slice_get t.rows place) ≡ Some h.key) × (h.row ≡ record { rows = t; place = place })
