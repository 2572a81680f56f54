-- Worked templates, computed: what they show, what they read, and the edits from one shape to the next.
use Rattle.std.proofs.Common.{◌≡◌, ℕ, List, [], ◌∷◌, refl}
use Rattle.std.specs.Prelude.{codes, Bool, Some, None, true, false}
use Rattle.sig_base.specs.declared.rows.Row.{Row}
use Rattle.sig_base.specs.declared.scalar.Scalar.TheVariants as scalar
use Rattle.sig_base.specs.declared.value.Value.TheVariants as value
use Rattle.sig_base.specs.declared.value.Fault.TheVariants.{Zero, Gone}
use Rattle.sig_base.specs.declared.value.Outcome.{Outcome}
use Rattle.sig_base.specs.declared.value.Outcome.TheVariants.{Good, Bad}
use Rattle.sig_formula.specs.Trees.{Tree, literal, slot, row_field}
use Rattle.page_model.specs.Addresses.{address}
use Rattle.page_model.specs.Forest.{Forest, none, node}
use Rattle.page_model.specs.Labels.{Look, Root, Text, Element}
use Rattle.page_model.specs.Replay.{OpRemove, OpInsert, OpMove, OpText, OpUnattr}
use Rattle.page_model.specs.Pages.{NumberedPage, bare, renumbered, edits_between}
use Rattle.tpl_model.specs.Lines.{Line, TextLine, TagLine, AttrLine, IfLine, ElseLine, EachLine, TryLine, EndLine}
use Rattle.tpl_model.specs.Shapes.{Evaluating, shown_lines, shape_of}
use Rattle.tpl_model.specs.Sources.{evaluating, firsts, known_page, needed}

-- a formula that is a text
abbrev words : List ℕ → Tree
words t = literal (scalar.Text t)

-- the outcome that is this text
abbrev said : List ℕ → Outcome
said t = Good (value.Text t)

-- the outcome of a name among these
abbrev among : List Outcome → ℕ → Outcome
among [] n = Bad Gone
among (o ∷ os) ℕ.zero = o
among (o ∷ os) (ℕ.suc n) = among os n

-- formulas on these names, whose outcomes are among these
abbrev on : List ℕ → List Outcome → Evaluating
on links outcomes = evaluating links (among outcomes)

-- the page after a page, where the names of its template have these outcomes
abbrev updated_page : List Line → List ℕ → NumberedPage → List Outcome → NumberedPage
updated_page lines links p outcomes = renumbered p (shape_of (on links outcomes) lines)

-- ---- a branch, and an element with an attribute

abbrev form_lines : List Line
form_lines = IfLine (slot 0) ∷ TextLine (words (codes "yes")) ∷ ElseLine ∷ TextLine (words (codes "no")) ∷ EndLine
    ∷ TagLine (codes "input") ∷ AttrLine (codes "disabled") (slot 1) ∷ EndLine ∷ []

-- two truths
abbrev truths : Bool → Bool → List Outcome
truths a b = Good (value.Bool a) ∷ Good (value.Bool b) ∷ []

-- a text has the ordinal of its line, and a true attribute the empty value
form_shape : shape_of (on (0 ∷ 1 ∷ []) (truths true true)) form_lines
    ≡ node 0 Root (node (address 2 None) (Text (codes "yes")) none
    (node (address 6 None) (Element (codes "input") ((codes "disabled", Some []) ∷ [])) none none)) none
form_shape = refl

-- a test that comes to a fault shows neither branch, and a text is the value of an attribute
form_untold : shape_of (on (0 ∷ 1 ∷ []) (Bad Zero ∷ said (codes "1") ∷ [])) form_lines
    ≡ node 0 Root (node (address 6 None) (Element (codes "input") ((codes "disabled", Some (codes "1")) ∷ [])) none none) none
form_untold = refl

abbrev form_first : NumberedPage
form_first = updated_page form_lines (0 ∷ 1 ∷ []) bare (truths true true)

form_mounted : edits_between bare form_first
    ≡ OpInsert 0 0 1 (Text (codes "yes")) none ∷ OpInsert 0 1 2 (Element (codes "input") ((codes "disabled", []) ∷ [])) none ∷ []
unfolding address
form_mounted = refl

-- an attribute that isn't true any more goes
form_flushed : edits_between form_first (updated_page form_lines (0 ∷ 1 ∷ []) form_first (truths true false)) ≡ OpUnattr 2
    (codes "disabled") ∷ []
unfolding address
form_flushed = refl

-- the other branch comes under a new number
form_turned : edits_between form_first (updated_page form_lines (0 ∷ 1 ∷ []) form_first (truths false true))
    ≡ OpRemove 1 ∷ OpInsert 0 0 3 (Text (codes "no")) none ∷ []
unfolding address
form_turned = refl

-- ---- what is asked for

-- an element whose attribute reads the slot 1, and whose text reads the slot 0 and then the slot 2
abbrev box_lines : List Line
box_lines = TagLine (codes "p") ∷ AttrLine (codes "title") (slot 1) ∷ TextLine (slot 0) ∷ TextLine (slot 2) ∷ EndLine ∷ TextLine
    (slot 0) ∷ []

-- attributes come before children, and a name that is read twice is asked for once
box_reads : firsts [] (shown_lines (on (10 ∷ 11 ∷ 12 ∷ []) []) box_lines).reads ≡ 11 ∷ 10 ∷ 12 ∷ []
box_reads = refl

box_needs : needed (None ∷ None ∷ None ∷ []) box_lines ≡ Some 1
box_needs = refl

box_needs_next : needed (None ∷ Some (said (codes "t")) ∷ None ∷ []) box_lines ≡ Some 0
box_needs_next = refl

-- what is known is numbered in document order
box_page : known_page (Some (said (codes "a")) ∷ Some (Bad Zero) ∷ Some (said (codes "c")) ∷ []) box_lines
    ≡ node 1 (Element (codes "p") []) (node 2 (Text (codes "a")) none (node 3 (Text (codes "c")) none none)) (node 4 (Text
    (codes "a")) none none)
box_page = refl

-- ---- rows

-- a row of one text
abbrev row : List ℕ → List ℕ → Row
row k t = record { key = k; values = scalar.Text t ∷ [] }

-- rows with the field `n`
abbrev rows : List Row → List Outcome
rows rs = Good (value.Rows (record { fields = codes "n" ∷ []; rows = rs })) ∷ []

abbrev list_lines : List Line
list_lines = TagLine (codes "ul") ∷ EachLine (slot 0) ∷ TagLine (codes "li") ∷ TextLine (row_field
    (codes "n")) ∷ EndLine ∷ EndLine ∷ EndLine
    ∷ TextLine (slot 0) ∷ []

-- an item of the list
abbrev item : List ℕ → List ℕ → Forest Look → Forest Look
item k t rest = node (address 3 (Some k)) (Element (codes "li") []) (node (address 4 (Some k)) (Text t) none none) rest

-- the lines of an `each` once for each row, and rows as a text are of the wrong kind
list_shape : shape_of (on (0 ∷ []) (rows (row (codes "a") (codes "x") ∷ row (codes "b") (codes "y") ∷ []))) list_lines
    ≡ node 0 Root (node (address 1 None) (Element (codes "ul") []) (item (codes "a") (codes "x") (item (codes "b") (codes "y") none))
    (node (address 8 None) (Text (codes "#ERR kind")) none none)) none
list_shape = refl

abbrev list_first : NumberedPage
list_first = updated_page list_lines (0 ∷ []) bare (rows (row (codes "a") (codes "x") ∷ row (codes "b") (codes "y") ∷ []))

-- rows are told apart by their keys: those that change places move, and a field that differs is a text that differs
list_moved : edits_between list_first (updated_page list_lines (0 ∷ []) list_first (rows (row (codes "b") (codes "y") ∷ row (codes "a")
    (codes "z") ∷ [])))
    ≡ OpMove 4 0 ∷ OpText 3 (codes "z") ∷ []
unfolding address
list_moved = refl

-- ---- what is attempted

abbrev tried_lines : List Line
tried_lines = TryLine ∷ TagLine (codes "p") ∷ TextLine (slot 0) ∷ EndLine ∷ ElseLine ∷ TextLine (words (codes "none")) ∷ EndLine ∷ []

abbrev tried_first : NumberedPage
tried_first = updated_page tried_lines (0 ∷ []) bare (Bad Zero ∷ [])

abbrev tried_second : NumberedPage
tried_second = updated_page tried_lines (0 ∷ []) tried_first (said (codes "2") ∷ [])

-- a fault leaves the second part alone
tried_mounted : edits_between bare tried_first ≡ OpInsert 0 0 1 (Text (codes "none")) none ∷ []
unfolding address
tried_mounted = refl

tried_flushed : edits_between tried_first tried_second
    ≡ OpRemove 1 ∷ OpInsert 0 0 2 (Element (codes "p") []) (node 3 (Text (codes "2")) none none) ∷ []
unfolding address
tried_flushed = refl

-- and so does the part that was shown where a fault comes again
tried_again : edits_between tried_second (updated_page tried_lines (0 ∷ []) tried_second (Bad Zero ∷ []))
    ≡ OpRemove 2 ∷ OpInsert 0 0 4 (Text (codes "none")) none ∷ []
unfolding address
tried_again = refl

-- two texts are attempted, and otherwise a third
abbrev either_lines : List Line
either_lines = TryLine ∷ TextLine (slot 0) ∷ TextLine (slot 1) ∷ ElseLine ∷ TextLine (slot 2) ∷ EndLine ∷ []

-- nothing is read behind a fault
either_reads : firsts [] (shown_lines (on (10 ∷ 11 ∷ 12 ∷ []) (Bad Zero ∷ [])) either_lines).reads ≡ 10 ∷ 12 ∷ []
either_reads = refl

-- what is known decides what is needed next
either_needs : (needed (None ∷ None ∷ None ∷ []) either_lines ≡ Some 0) × (needed (Some
    (Bad Zero) ∷ None ∷ None ∷ []) either_lines ≡ Some 2)
    × (needed (Some (said (codes "1")) ∷ None ∷ None ∷ []) either_lines ≡ Some 1)
    × (needed (Some (Bad Zero) ∷ None ∷ Some (said (codes "7")) ∷ []) either_lines ≡ None)
either_needs = (refl, refl, refl, refl)

-- the second part of an inner attempt ends the first part of the outer one
abbrev nested_lines : List Line
nested_lines = TryLine ∷ TryLine ∷ TextLine (slot 0) ∷ ElseLine ∷ TextLine (slot 0) ∷ EndLine ∷ TextLine (words (codes "tail")) ∷ ElseLine
    ∷ TextLine (words (codes "outer")) ∷ EndLine ∷ []

nested_shape : shape_of (on (0 ∷ []) (Bad Zero ∷ [])) nested_lines ≡ node 0 Root (node (address 9 None) (Text
    (codes "outer")) none none) none
nested_shape = refl
