-- Worked examples with pages: the operations that are told of them.
use Rattle.std.specs.Prelude.{◌≡◌, ℕ, Bool, true, false, List, [], ◌∷◌, None, codes}
use Rattle.std.specs.List.{filter}
use Rattle.std.proofs.Common.{refl}
use Rattle.sig_base.specs.declared.scalar.Scalar.TheVariants as scalar
use Rattle.sig_formula.specs.Trees.{Tree, literal, slot, row_field}
use Rattle.html_out.specs.Html.{is_void}
use Rattle.page_model.specs.Addresses.{address}
use Rattle.page_model.specs.Forest.{Forest, node, none}
use Rattle.page_model.specs.Labels.{Kind, Text, Element}
use Rattle.page_model.specs.Replay.{Op, OpRemove, OpInsert, OpMove, OpText, OpUnattr}
use Rattle.tpl_syntax.specs.declared.line.Line.{Line}
use Rattle.tpl_syntax.specs.declared.line.Line.TheVariants as line
use Rattle.tpl_syntax.specs.declared.line.Mark.TheVariants as mark
use Rattle.tpl_syntax.specs.declared.line.Purpose.TheVariants as purpose
use Rattle.live_cmd.specs.declared.command.Command.TheVariants as command
use Rattle.live_cmd.specs.declared.command.Verb.TheVariants as verb
use Rattle.live_cmd.specs.declared.command.Item.{Item}
use Rattle.live_cmd.specs.declared.command.Item.TheVariants as item
use Rattle.live_entries.specs.declared.entry.Entry.{Entry}
use Rattle.live_entries.specs.declared.entry.Entry.TheVariants as entry
use Rattle.live_model.specs.Examples.{told_by, a_cell, a_set, a_template}
use Rattle.live_model.specs.EffectExamples.{a_flush}
use Rattle.live_model.specs.RowExamples.{a_list, a_move, a_put, a_remove, an_insert, words}

-- ---- words for the examples

-- a page of a template
abbrev pub a_mount : List ℕ → List ℕ → Item
a_mount n t = item.Do (command.Mount n t None)

-- whether it is an operation
abbrev pub is_op : Entry → Bool
is_op (entry.Op n o) = true
is_op _ = false

-- what items tell of operations
abbrev pub ops_of : List Item → List Entry
ops_of is = filter is_op (told_by 0 is)

-- an operation on a page
abbrev pub op : List ℕ → Op → Entry
op n o = entry.Op n o

-- an element without attributes, and the nodes behind it
abbrev pub element : ℕ → List ℕ → Forest Kind → Forest Kind → Forest Kind
element n name inner rest = node n (Element name []) inner rest

-- a text
abbrev pub a_text : ℕ → List ℕ → Forest Kind
a_text n t = node n (Text t) none none

-- a line that shows a text
abbrev pub text_line : Tree → Line Tree
text_line f = line.Over purpose.Text f

-- a line of an attribute
abbrev pub attr_line : List ℕ → Tree → Line Tree
attr_line n f = line.Over (purpose.Attr n) f

-- a line that chooses
abbrev pub if_line : Tree → Line Tree
if_line f = line.Over purpose.If f

-- a line that goes over rows
abbrev pub each_line : Tree → Line Tree
each_line f = line.Over purpose.Each f

-- a line of an element
abbrev pub tag_line : List ℕ → Line Tree
tag_line n = line.Plain (mark.Tag n)

-- what stands behind it is shown otherwise
abbrev pub else_line : Line Tree
else_line = line.Plain mark.Else

-- the end of what was opened last
abbrev pub end_line : Line Tree
end_line = line.Plain mark.End

-- ---- choices and attributes

-- c and d are true; the page has one of two texts by c, and an input that is disabled by d. c is set twice and is as before, and then d is set
abbrev pub chosen : List Item
chosen = a_cell (codes "c") (scalar.Bool true) ∷ a_cell (codes "d") (scalar.Bool true)
    ∷ a_template (codes "t") (if_line (slot 0) ∷ text_line (literal (words (codes "yes"))) ∷ else_line ∷ text_line (literal (words (codes "no")))
    ∷ end_line ∷ tag_line (codes "input") ∷ attr_line (codes "disabled") (slot 1) ∷ end_line ∷ []) (codes "c" ∷ codes "d" ∷ [])
    ∷ a_mount (codes "p") (codes "t") ∷ a_set (codes "c") (scalar.Bool false) ∷ a_set (codes "c") (scalar.Bool true) ∷ a_flush
    ∷ a_set (codes "d") (scalar.Bool false) ∷ a_flush ∷ []

-- the first flush tells nothing
pub chosen_told : ops_of chosen
    ≡ op (codes "p") (OpInsert 0 0 1 (Text (codes "yes")) none)
    ∷ op (codes "p") (OpInsert 0 1 2 (Element (codes "input") ((codes "disabled", []) ∷ [])) none)
    ∷ op (codes "p") (OpUnattr 2 (codes "disabled")) ∷ []
unfolding address
chosen_told = refl

-- ---- rows

-- the lines of a list, each with the row's t
abbrev pub lines_of_rows : List (Line Tree)
lines_of_rows = tag_line (codes "ul") ∷ each_line (slot 0) ∷ tag_line (codes "li") ∷ text_line (row_field (codes "t"))
    ∷ end_line ∷ end_line ∷ end_line ∷ []

-- three rows are shown; the third becomes the first, the second goes, one comes behind, and the first of before changes its text. Then that one
-- goes, and another one comes with its key.
abbrev pub rows_change : List Item
rows_change = a_list (codes "l") (codes "t" ∷ []) ∷ an_insert (codes "l") 0 (codes "k1") (words (codes "A") ∷ [])
    ∷ an_insert (codes "l") 1 (codes "k2") (words (codes "B") ∷ []) ∷ an_insert (codes "l") 2 (codes "k3") (words (codes "C") ∷ [])
    ∷ a_template (codes "t") lines_of_rows (codes "l" ∷ []) ∷ a_mount (codes "p") (codes "t") ∷ a_move (codes "l") (codes "k3") 0
    ∷ a_remove (codes "l") (codes "k2") ∷ an_insert (codes "l") 2 (codes "k4") (words (codes "D") ∷ [])
    ∷ a_put (codes "l") (codes "k1") (codes "t") (words (codes "Z")) ∷ a_flush ∷ a_remove (codes "l") (codes "k1")
    ∷ an_insert (codes "l") 0 (codes "k1") (words (codes "Q") ∷ []) ∷ a_flush ∷ []

-- a row keeps its node as long as its key stands on the page
pub rows_change_told : ops_of rows_change
    ≡ op (codes "p") (OpInsert 0 0 1 (Element (codes "ul") []) (element 2 (codes "li") (a_text 3 (codes "A"))
    (element 4 (codes "li") (a_text 5 (codes "B")) (element 6 (codes "li") (a_text 7 (codes "C")) none))))
    ∷ op (codes "p") (OpRemove 4) ∷ op (codes "p") (OpMove 6 0) ∷ op (codes "p") (OpInsert 1 2 8 (Element (codes "li") []) (a_text 9 (codes "D")))
    ∷ op (codes "p") (OpText 3 (codes "Z")) ∷ op (codes "p") (OpMove 2 0) ∷ op (codes "p") (OpText 3 (codes "Q")) ∷ []
unfolding address
rows_change_told = refl

-- ---- what is told beside operations

-- a page of an element without anything in it is mounted, flushed, shown and made from scratch
abbrev pub empty_element : List Item
empty_element = a_template (codes "t") (tag_line (codes "ul") ∷ end_line ∷ []) [] ∷ a_mount (codes "p") (codes "t") ∷ a_flush
    ∷ item.Do (command.Named verb.Show (codes "p")) ∷ item.Do (command.Named verb.Scratch (codes "p")) ∷ []

-- a flush tells a page only where it has an operation
pub empty_element_told : told_by 0 empty_element
    ≡ op (codes "p") (OpInsert 0 0 1 (Element (codes "ul") []) none) ∷ entry.Page (codes "p") (codes "<ul></ul>")
    ∷ entry.Page (codes "p") (codes "<ul></ul>") ∷ entry.Scratch (codes "p") (codes "<ul></ul>") ∷ []
unfolding address is_void
empty_element_told = refl
