-- What the lines of a template show, in document order.
use Rattle.std.specs.Prelude.{ℕ, suc, ◌&&◌, ◌||◌, Bool, true, false, List, [], ◌∷◌, ◌++◌, codes, map, unwrap_or, Option, Some, None, if◌then◌else◌}
use Rattle.std.specs.Option.{option_map}
use Rattle.sig_base.specs.Tables.{Table}
use Rattle.sig_base.specs.Printer.{fault_name}
use Rattle.sig_base.specs.Values.{shown}
use Rattle.sig_base.specs.declared.rows.Row.{Row}
use Rattle.sig_base.specs.declared.value.Value.TheVariants as value
use Rattle.sig_base.specs.declared.value.Outcome.{Outcome}
use Rattle.sig_base.specs.declared.value.Outcome.TheVariants.{Good, Bad}
use Rattle.sig_formula.specs.Trees.{Tree}
use Rattle.sig_formula.specs.declared.formula.RowRef.{RowRef}
use Rattle.signal_model.specs.Values.{Seen, Evaluation}
use Rattle.page_model.specs.Addresses.{address}
use Rattle.page_model.specs.Forest.{Forest, none, node, after}
use Rattle.page_model.specs.Labels.{Root, Text, Element, Look}
use Rattle.tpl_model.specs.Lines.{Line, Block, empty, text, tag, choice, each, attempt, block_of}

-- the row of an `each` in which a line stands: its key, and the row for formulas
pub record Here : Type 0 where
  pub key : List ℕ
  pub row : RowRef

-- its key, where there is one
abbrev pub key_here : Option Here → Option (List ℕ)
key_here here = option_map (λ (h : Here). h.key) here

-- its row, where there is one
abbrev pub row_here : Option Here → Option RowRef
row_here here = option_map (λ (h : Here). h.row) here

-- how the formula of a line is evaluated, by its row where it has one
abbrev pub Evaluating : Type 0
Evaluating = Option RowRef → Tree → Evaluation

-- what was shown: the nodes, the names that were read, in order, and whether a line met a fault
pub record Showing : Type 0 where
  pub nodes : Forest Look
  pub reads : List ℕ
  pub failed : Bool

-- nothing is shown or read
abbrev pub nothing : Showing
nothing = record { nodes = none; reads = []; failed = false }

-- whether an evaluation came to a fault
abbrev pub is_fault : Outcome → Bool
is_fault (Good v) = false
is_fault (Bad e) = true

-- a formula is read, and these nodes are shown of it
abbrev pub formula_shown : Evaluation → Forest Look → Showing
formula_shown e nodes = record { nodes = nodes; reads = map (λ (s : Seen). s.name) e.reads; failed = is_fault e.outcome }

-- One after the other. Where showing ends at the first fault, nothing is read after one, and no nodes are left.
abbrev pub then_shown : Bool → Showing → Showing → Showing
then_shown ends first later =
    if ends && first.failed then record first { nodes = none }
    else record { nodes = after first.nodes later.nodes; reads = first.reads ++ later.reads; failed = first.failed || later.failed }

-- ---- one line

-- the text of a text node: the shown text of a scalar, and for rows and faults `#ERR` with the name of the fault
abbrev pub node_text : Outcome → List ℕ
node_text (Good v) = unwrap_or (shown v) (codes "#ERR kind")
node_text (Bad e) = codes "#ERR " ++ fault_name e

-- the value of an attribute: a truth has the empty one or none, rows and faults have none
abbrev pub attribute_value : Outcome → Option (List ℕ)
attribute_value (Good (value.Bool true)) = Some []
attribute_value (Good (value.Bool false)) = None
attribute_value (Good v) = shown v
attribute_value (Bad e) = None

-- the attributes of an element, each with its value where it has one
abbrev pub attributes_of : Evaluating → Option RowRef → List (List ℕ × Tree) → List (List ℕ × Option (List ℕ))
attributes_of evaluate row [] = []
attributes_of evaluate row (a ∷ rest) = (a.0, attribute_value (evaluate row a.1).outcome) ∷ attributes_of evaluate row rest

-- the reads of attributes, which show no nodes of their own
abbrev pub attributes_told : Bool → Evaluating → Option RowRef → List (List ℕ × Tree) → Showing
attributes_told ends evaluate row [] = nothing
attributes_told ends evaluate row (a ∷ rest) = then_shown ends (formula_shown (evaluate row a.1) none) (attributes_told ends evaluate row rest)

-- what is inside an element stands under it
abbrev pub within : ℕ → Look → Showing → Showing
within a look inner = record inner { nodes = node a look inner.nodes none }

-- one branch, or neither
abbrev pub chosen : Outcome → Showing → Showing → Showing
chosen (Good (value.Bool true)) one other = one
chosen (Good (value.Bool false)) one other = other
chosen _ one other = nothing

-- the lines once for each row, from a place on
abbrev pub rows_from : Bool → (Here → Showing) → Table → ℕ → List Row → Showing
rows_from ends go t i [] = nothing
rows_from ends go t i (r ∷ rs) =
    then_shown ends (go (record { key = r.key; row = record { rows = t; place = i } })) (rows_from ends go t (suc i) rs)

-- the lines once for each row, and nothing where there are no rows
abbrev pub each_row : Bool → (Here → Showing) → Outcome → Showing
each_row ends go (Good (value.Rows t)) = rows_from ends go t 0 t.rows
each_row ends go _ = nothing

-- the first part where it met no fault, otherwise the second; what the first part read was read
abbrev pub attempted : Showing → Showing → Showing
attempted first second = if first.failed then record second { reads = first.reads ++ second.reads } else first

-- ---- all lines

-- The lines of a block, shown to their end or, inside of what is attempted, to the first line that meets a fault. Attributes are read before
-- children.
abbrev pub shown_block : Evaluating → Bool → Option Here → Block → Showing
shown_block evaluate ends here empty = nothing
shown_block evaluate ends here (text n f rest) =
    let e = evaluate (row_here here) f in
    then_shown ends (formula_shown e (node (address n (key_here here)) (Text (node_text e.outcome)) none none))
    (shown_block evaluate ends here rest)
shown_block evaluate ends here (tag n name attributes inner rest) =
    then_shown ends
    (within (address n (key_here here)) (Element name (attributes_of evaluate (row_here here) attributes))
    (then_shown ends (attributes_told ends evaluate (row_here here) attributes) (shown_block evaluate ends here inner)))
    (shown_block evaluate ends here rest)
shown_block evaluate ends here (choice f one other rest) =
    let e = evaluate (row_here here) f in
    then_shown ends
    (then_shown ends (formula_shown e none) (chosen e.outcome (shown_block evaluate ends here one) (shown_block evaluate ends here other)))
    (shown_block evaluate ends here rest)
shown_block evaluate ends here (each f inner rest) =
    let e = evaluate (row_here here) f in
    then_shown ends
    (then_shown ends (formula_shown e none) (each_row ends (λ h. shown_block evaluate ends (Some h) inner) e.outcome))
    (shown_block evaluate ends here rest)
shown_block evaluate ends here (attempt first second rest) =
    then_shown ends
    (attempted (shown_block evaluate true here first) (shown_block evaluate ends here second))
    (shown_block evaluate ends here rest)

-- what the lines of a template show
abbrev pub shown_lines : Evaluating → List Line → Showing
shown_lines evaluate lines = shown_block evaluate false None (block_of lines)

-- the shape of a template: its nodes below the root
abbrev pub shape_of : Evaluating → List Line → Forest Look
shape_of evaluate lines = node 0 Root (shown_lines evaluate lines).nodes none
