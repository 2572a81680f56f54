-- Worked examples of events: handlers on the lines of a template, and what is told as events are fired on its page.
use Rattle.std.specs.Prelude.{◌≡◌, ℕ, List, [], ◌∷◌, codes}
use Rattle.std.specs.Fmt.{digits}
use Rattle.std.specs.Str.{chars}
use lib.Utf8.{encode}
use Rattle.std.proofs.Common.{refl}
use Rattle.sig_base.specs.declared.value.Fault.TheVariants as fault
use Rattle.sig_base.specs.declared.value.Value.TheVariants as value
use Rattle.sig_formula.specs.declared.formula.BinOp.TheVariants.{Add}
use Rattle.sig_formula.specs.Trees.{literal, slot, binary}
use Rattle.html_out.specs.Html.{escaped, is_raw, is_void}
use Rattle.page_model.specs.Addresses.{address}
use Rattle.page_model.specs.Forest.{none}
use Rattle.page_model.specs.Labels.{Element}
use Rattle.page_model.specs.Replay.{OpInsert, OpText}
use Rattle.event_model.specs.Ways.{line_in, way}
use Rattle.sig_untrack.specs.Stated.{Bodies, no_more}
use Rattle.live_cmd.specs.declared.command.Command.TheVariants as command
use Rattle.live_cmd.specs.declared.command.Item.{Item}
use Rattle.live_cmd.specs.declared.command.Item.TheVariants as item
use Rattle.live_entries.specs.declared.entry.Entry.TheVariants as entry
use Rattle.live_entries.specs.declared.refusal.Refusal.TheVariants as refusal
use Rattle.live_model.specs.Examples.{told_by, a_cell, int, a_template, error, untraced}
use Rattle.live_model.specs.EffectExamples.{a_flush, line_log, line_set, logged, number, simple}
use Rattle.live_model.specs.PageExamples.{a_mount, a_text, element, end_line, op, tag_line, text_line}
use Rattle.live_model.specs.RowExamples.{words}

-- ---- words for the examples

-- a handler of clicks at a line of the template t
abbrev pub a_handler : ℕ → Bodies → Item
a_handler line b = item.Do (command.On (codes "t") line (codes "click") b)

-- a click at a node of the page p
abbrev pub a_click : ℕ → Item
a_click node = item.Do (command.Fire (codes "p") node (codes "click"))

-- ---- a button in a box

-- n = 0; the button shows n. A click at the box logs, and one at the button counts, and logs what was there. It is clicked at the text, at the box,
-- and where no node is; a handler is made at the line of the text; and the page is brought up to date.
abbrev pub clicked : List Item
clicked = a_cell (codes "n") (int 0)
    ∷ a_template (codes "t") (tag_line (codes "div") ∷ tag_line (codes "button") ∷ text_line (slot 0) ∷ end_line ∷ end_line ∷ []) (codes "n" ∷ [])
    ∷ a_handler 1 (simple (line_log (literal (words (codes "outer"))) no_more) [] [])
    ∷ a_handler 2 (simple (line_set 0 (binary Add (slot 0) (number 1)) (line_log (slot 0) no_more)) (codes "n" ∷ []) (codes "n" ∷ []))
    ∷ a_mount (codes "p") (codes "t") ∷ a_click 3 ∷ a_click 1 ∷ a_click 9 ∷ a_handler 3 (simple no_more [] []) ∷ a_flush ∷ []

-- what it tells: the button comes before the box, and the page changes with the flush alone
pub clicked_told : untraced (told_by 0 clicked)
    ≡ op (codes "p") (OpInsert 0 0 1 (Element (codes "div") []) (element 2 (codes "button") (a_text 3 (codes "0")) none))
    ∷ entry.Page (codes "p") (codes "<div><button>0</button></div>")
    ∷ logged 0 ∷ entry.Log (value.Text (codes "outer")) ∷ entry.Log (value.Text (codes "outer")) ∷ error (refusal.NoNode 9) ∷ error (refusal.NoLine 3)
    ∷ op (codes "p") (OpText 3 (codes "1")) ∷ entry.Page (codes "p") (codes "<div><button>1</button></div>") ∷ []
unfolding address is_void is_raw escaped digits chars encode way line_in
clicked_told = refl

-- ---- a handler that fails

-- n is a text; the first handler would count it, and the second logs it
abbrev pub failing : List Item
failing = a_cell (codes "n") (words (codes "x")) ∷ a_template (codes "t") (tag_line (codes "b") ∷ end_line ∷ []) []
    ∷ a_handler 1 (simple (line_set 0 (binary Add (slot 0) (number 1)) no_more) (codes "n" ∷ []) (codes "n" ∷ []))
    ∷ a_handler 1 (simple (line_log (slot 0) no_more) [] (codes "n" ∷ [])) ∷ a_mount (codes "p") (codes "t") ∷ a_click 1 ∷ []

-- the second runs all the same
pub failing_told : told_by 0 failing
    ≡ op (codes "p") (OpInsert 0 0 1 (Element (codes "b") []) none) ∷ entry.Page (codes "p") (codes "<b></b>")
    ∷ entry.Fired (codes "p") 1 ∷ entry.FailAt (codes "p") 1 fault.Kind ∷ entry.Fired (codes "p") 1 ∷ entry.Log (value.Text (codes "x")) ∷ []
unfolding address is_void way line_in
failing_told = refl
