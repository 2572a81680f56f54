-- Which nodes of a page are compared when it is brought up to date, by what became of what is kept of its lines.
use Rattle.std.specs.Prelude.{◌≡◌, ◌&&◌, ℕ, Bool, true, false, List, [], ◌∷◌, ◌++◌, map, Option, Some, None, if◌then◌else◌}
use Rattle.sig_base.specs.declared.value.Outcome.{Outcome}
use Rattle.page_model.specs.Addresses.{address}
use Rattle.page_model.specs.Forest.{Forest, on, kids, label_in}
use Rattle.page_model.specs.Labels.{Root, Text, Element, Kind, Look}
use Rattle.page_model.specs.Pages.{NumberedPage, number_of, page_shape}
use Rattle.tpl_model.specs.Laws.{GivesRows, IsTemplate}
use Rattle.tpl_model.specs.Lines.{Block, empty, text, tag, choice, each, attempt, block_of, Line}
use Rattle.tpl_model.specs.Shapes.{Here, node_text}
use Rattle.tpl_model.specs.Sources.{evaluating}
use Rattle.tpl_model.specs.KeptLines.Outcomes.{Outcomes}
use Rattle.tpl_model.specs.PageUpdates.PageMemos.{PageMemo, line, element, branch, loop, row, either, nodes, part_shown, picks, values}
use Rattle.tpl_model.specs.PageUpdates.Updates.{Keeps, memo_on, memo_shape}
use Rattle.tpl_model.specs.ShownNodes.Shapes.{Marked, Next}
use Rattle.tpl_drawn.specs.Marks.{children_in, marked_at, marks_in}
use Rattle.tpl_model.specs.NextPage.Marks.{Sees}
use Rattle.tpl_model.specs.KeptLines.Memos.{Agrees}
use Rattle.tpl_model.specs.KeptLines.Changes.{Change, stays, made, over, also, first_in, is_stays, Tells}

-- what is known of a page's numbers
abbrev pub known_of : NumberedPage → ℕ → Option ℕ
known_of p a = if on a (page_shape p) then Some (number_of p a) else None

-- ---- the marks of a walk

-- a mark for the children alone, and one for the look alone
abbrev pub touched_part : Marked → Marked
touched_part m = record { number = m.number; look = Root; children = m.children }

abbrev pub restated_part : Marked → Marked
restated_part m = record { number = m.number; look = m.look; children = [] }

-- a node is marked behind those below it, where it has a number, unless it is the same
abbrev pub marked_unless : (same : Bool) → Option ℕ → Look → List Next → List Marked → List Marked
marked_unless same None x children below = []
marked_unless true (Some n) x children below = below
marked_unless false (Some n) x children below = marked_at (Some n) x children below

-- how a node is marked: by whether its line was heard so before, whether its inside keeps its topmost nodes, its number, its look, its children, and
-- the marks below it
abbrev pub Marking : Type 0
Marking = (same keeps : Bool) → Option ℕ → Look → List Next → List Marked → List Marked

-- children may differ unless the inside keeps them
abbrev pub touching : Marking
touching same keeps n x children below = marked_unless keeps n Root children below

-- a look may differ unless the line was heard so before
abbrev pub restating : Marking
restating same keeps n x children below = marked_unless same n x [] below

-- whether lines are texts and elements alone, which always show the same topmost nodes
abbrev pub is_plain : Block → Bool
is_plain empty = true
is_plain (text n f rest) = is_plain rest
is_plain (tag n name xs inner rest) = is_plain rest
is_plain b = false

-- lines that stay keep their topmost nodes, and those that were made anew where they always show the same
abbrev pub keeps_by : (plain : Bool) → (Bool → Change → Bool) → Change → Bool
keeps_by plain parts stays = true
keeps_by plain parts made = plain
keeps_by plain parts (over same inside later) = parts same later
keeps_by plain parts c = false

-- whether lines keep their topmost nodes, where this became of them; rows that always show the same keep theirs where their loop is the same, and
-- what is tried where it is
abbrev pub keeps_nodes : Block → Change → Bool
keeps_nodes empty c = true
keeps_nodes (text n f rest) c = keeps_by (is_plain rest) (λ same later. keeps_nodes rest later) c
keeps_nodes (tag n name xs inner rest) c = keeps_by (is_plain rest) (λ same later. keeps_nodes rest later) c
keeps_nodes (each f inner rest) c = keeps_by false (λ same later. (same && is_plain inner) && keeps_nodes rest later) c
keeps_nodes (attempt first second rest) c = keeps_by false (λ same later. same && keeps_nodes rest later) c
keeps_nodes b c = is_stays c

-- nothing of what stays, all of what was made anew, and of the rest its parts
abbrev pub marks_by : List Marked → (Bool → Change → Change → List Marked) → Change → List Marked
marks_by all parts stays = []
marks_by all parts made = all
marks_by all parts (over same inside later) = parts same inside later
marks_by all parts c = []

-- the marks of rows, one row after the other
abbrev pub row_marks : (Here → PageMemo → Change → List Marked) → PageMemo → Change → List Marked
row_marks go (row here m next) (also c cs) = go here m c ++ row_marks go next cs
row_marks go m c = []

-- the marks of what is tried: none where it is the same, and otherwise all of its nodes
abbrev pub tried_marks : (Marked → Marked) → (ℕ → Option ℕ) → (same : Bool) → Forest Look → List Marked
tried_marks part known true shape = []
tried_marks part known false shape = map part (marks_in known shape)

-- the marks of lines in the row of that key, by what became of what is kept of them
abbrev pub marked_by : Marking → (Marked → Marked) → (ℕ → Option ℕ) → Option (List ℕ) → Block → PageMemo → Change → List Marked
marked_by mark part known k (text n f rest) (line h r) c =
    marks_by (map part (marks_in known (nodes k (text n f rest) (line h r))))
    (λ same inside later. mark same true (known (address n k)) (Text (node_text h.outcome)) [] [] ++ marked_by mark part known k rest r later) c
marked_by mark part known k (tag n name xs inner rest) (element hs i r) c =
    marks_by (map part (marks_in known (nodes k (tag n name xs inner rest) (element hs i r))))
    (λ same inside later. mark same (keeps_nodes inner (first_in inside)) (known (address n k)) (Element name (values xs hs))
    (children_in known (nodes k inner i)) (marked_by mark part known k inner i (first_in inside)) ++ marked_by mark part known k rest r later) c
marked_by mark part known k (choice f one other rest) (branch h i r) c =
    marks_by (map part (marks_in known (nodes k (choice f one other rest) (branch h i r))))
    (λ same inside later. picks h.outcome (marked_by mark part known k one i (first_in inside))
    (marked_by mark part known k other i (first_in inside)) [] ++ marked_by mark part known k rest r later) c
marked_by mark part known k (each f inner rest) (loop h i r) c =
    marks_by (map part (marks_in known (nodes k (each f inner rest) (loop h i r))))
    (λ same inside later. row_marks (λ (here : Here) (m : PageMemo) (d : Change). marked_by mark part known (Some here.key) inner m d) i inside
    ++ marked_by mark part known k rest r later) c
marked_by mark part known k (attempt first second rest) (either a b r) c =
    marks_by (map part (marks_in known (nodes k (attempt first second rest) (either a b r))))
    (λ same inside later. tried_marks part known same (part_shown b (nodes k first a) (nodes k second b))
    ++ marked_by mark part known k rest r later) c
marked_by mark part known k b m c = []

-- the nodes whose children may differ, the root behind those below it
abbrev pub touched_in : (ℕ → Option ℕ) → Block → PageMemo → Change → List Marked
touched_in known b m c =
    marked_unless (keeps_nodes b c) (Some 0) Root (children_in known (nodes None b m)) (marked_by touching touched_part known None b m c)

-- the nodes whose look may differ
abbrev pub restated_in : (ℕ → Option ℕ) → Block → PageMemo → Change → List Marked
restated_in known b m c = marked_by restating restated_part known None b m c

-- ---- what the marks are

-- a mark of a node of both pages, with its next children
pub record IsTouched (p : NumberedPage) (shape : Forest Look) (a : ℕ) (m : Marked) : Type 0 where
  pub here : on a (page_shape p) ≡ true
  pub there : on a shape ≡ true
  pub number : m.number ≡ number_of p a
  pub children : m.children ≡ children_in (known_of p) (kids a shape)

-- a mark of a node of both pages, with its next look
pub record IsRestated (p : NumberedPage) (shape : Forest Look) (a : ℕ) (m : Marked) : Type 0 where
  pub here : on a (page_shape p) ≡ true
  pub there : on a shape ≡ true
  pub number : m.number ≡ number_of p a
  pub look : m.look ≡ label_in Root a shape

-- a fact of each mark, by address
abbrev pub Each : (ℕ → Marked → Type 0) → List ℕ → List Marked → Type 0
Each Is [] [] = Unit {0}
Each Is (a ∷ ws) (m ∷ ms) = Is a m × Each Is ws ms
Each Is ws ms = ⊥

-- the marks are of nodes of both pages, and a node that isn't marked has the children, or the look, of before
pub record Compared (p : NumberedPage) (shape : Forest Look) (touched restated : List Marked) : Type 0 where
  pub children : List ℕ
  pub looks : List ℕ
  pub are_touched : Each (IsTouched p shape) children touched
  pub are_restated : Each (IsRestated p shape) looks restated
  pub sees : Sees (page_shape p) shape shape children looks

-- so it is, where a page stood on the outcomes of before and a change tells of what is kept of its lines now
abbrev pub CompareLaw : Type 0
CompareLaw = (lines : List Line) (links : List ℕ) (before : Outcomes) (source now : ℕ → Outcome) (was m : PageMemo) (p : NumberedPage)
    (tree : Forest Kind) (c : Change) → IsTemplate lines → Agrees before source → Keeps lines links source was p tree →
    GivesRows (evaluating links now) → m ≡ memo_on lines links now → Tells (block_of lines) links None before m c →
    Compared p (memo_shape lines m) (touched_in (known_of p) (block_of lines) m c) (restated_in (known_of p) (block_of lines) m c)
