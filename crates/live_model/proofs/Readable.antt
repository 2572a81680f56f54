-- An item of a script is as a script has it.
use Rattle.std.proofs.Common.{◌≡◌, ◌≤◌, ℕ, nat_lt, not, Bool, true, false, cond, List, length, Option, Some, None, Ok, Err, refl, sym, ap, subst}
use Rattle.std.specs.Option.{option_map_or, option_or}
use Rattle.std.proofs.lemmas.Bool.{and_from, ltb-false}
use Rattle.sig_base.specs.declared.limits.TheConstants.{MOST_SOURCES}
use Rattle.formula_text.specs.declared.wired.FormulaFault.{FormulaFault}
use Rattle.formula_text.specs.declared.wired.FormulaFault.TheVariants as fault
use Rattle.line_forms.specs.Forms.{Args}
use Rattle.line_forms.specs.Told.{fault_of_arguments}
use Rattle.script_lines.specs.Lines.{NumberedLine}
use Rattle.script_lines.specs.Pieces.{Piece}
use Rattle.body_text.specs.declared.fault.BodyWhy.{BodyWhy}
use Rattle.body_text.specs.declared.fault.BodyWhy.TheVariants as unbodied
use Rattle.body_text.specs.Allowances.{effects, handlers}
use Rattle.body_text.specs.Verdicts as bodies
use Rattle.tpl_blocks.proofs.Shared.{read_law}
use Rattle.tpl_syntax.specs.declared.fault.TemplateWhy.{TemplateWhy}
use Rattle.tpl_syntax.specs.declared.fault.TemplateWhy.TheVariants as unread
use Rattle.tpl_syntax.specs.Templates as templates
use Rattle.live_cmd.specs.declared.command.Command.{Command}
use Rattle.live_cmd.specs.declared.command.Item.{Item}
use Rattle.live_cmd.specs.declared.command.Item.TheVariants as item
use Rattle.script_items.specs.declared.contents.Content.{Content}
use Rattle.script_items.specs.declared.contents.Content.TheVariants as content
use Rattle.live_cmd.specs.declared.line.Line.{Line}
use Rattle.live_cmd.specs.declared.line.Line.TheVariants as line
use Rattle.script_items.specs.Blocks.{block_item, body_content, body_refused, effect_of, handler_of, template_content, template_refused, IsContentOf}
use Rattle.live_cmd.specs.Grammar.{Row, row, said_line, list, computed_host, rewire_host, effect, on, template, close, is_alone}
use Rattle.script_items.specs.Items.{command_of, first_line, has_many_fields, item_or, IsItem, long, unended, block, faulty, says}
use Rattle.live_cmd.specs.Refusals.{fault_of, refused_for}
use Rattle.live_entries.specs.declared.refusal.Refusal.{Refusal}
use Rattle.live_model.specs.Scripts.{IsReadable, IsReadItem}
use Rattle.live_model.proofs.ReadBodies.{body_read}

-- what a line makes by itself, if it has not too many fields
abbrev IsReadLine : Line → Type 0
IsReadLine (line.Alone c) = has_many_fields c ≡ false → IsReadable c
IsReadLine _ = Unit {0}

-- a host formula for which its line isn't refused has few arguments
few_arguments : (ns : List (List ℕ)) → option_or (fault_of_arguments ns) None ≡ None → length ns ≤ MOST_SOURCES
few_arguments ns e = at (nat_lt MOST_SOURCES (length ns)) refl e
  where
    at : (b : Bool) → nat_lt MOST_SOURCES (length ns) ≡ b → option_or (cond b (Some fault.Sources) None) None ≡ None → length ns ≤ MOST_SOURCES
    at true is h = absurd cc
    at false is h = ltb-false MOST_SOURCES (length ns) is

-- what a line says that is a command by itself and has nothing wrong with it
line_read : (r : Row) (a : Args (row r).1) → is_alone (r, a) ≡ true → fault_of (r, a) ≡ None → IsReadLine (said_line (r, a))
line_read list a alone e = λ few. and_from _ _ alone (ap not few)
line_read computed_host a alone e = λ few. few_arguments a.1.1.0 e
line_read rewire_host a alone e = λ few. few_arguments a.1.1.0 e
line_read effect a alone e = tt
line_read on a alone e = tt
line_read template a alone e = tt
line_read close a alone e = tt
line_read _ a alone e = λ few. tt

-- a choice of a refusal
chosen_read : (b : Bool) (r : Refusal) (c : Command) → (b ≡ false → IsReadable c) → IsReadItem (cond b (item.Refused r) (item.Do c))
chosen_read true r c read = tt
chosen_read false r c read = read refl

or_read : (k : ℕ) (l : Line) → IsReadLine l → IsReadItem (item_or k (command_of l))
or_read k (line.Alone c) read = chosen_read (has_many_fields c) _ c read
or_read k (line.Effect n o) read = tt
or_read k (line.On t p e) read = tt
or_read k (line.Template n) read = tt
or_read k line.End read = tt

unless_read : (k : ℕ) (o : Option FormulaFault) (i : Item) → (o ≡ None → IsReadItem i)
    → IsReadItem (option_map_or (λ f. item.Refused (refused_for k f)) o i)
unless_read k None i read = read refl
unless_read k (Some f) i read = tt

-- ---- blocks

abbrev IsReadContent : Content → Type 0
IsReadContent (content.Makes c) = IsReadable c
IsReadContent _ = Unit {0}

untold_body : (k : ℕ) (w : BodyWhy) → IsReadContent (body_refused k w)
untold_body k unbodied.Syntax = tt
untold_body k unbodied.UntrackHere = tt
untold_body k unbodied.ItHere = tt
untold_body k unbodied.Nest = tt
untold_body k unbodied.Text = tt
untold_body k unbodied.Sources = tt
untold_body k unbodied.Lines = tt
untold_body k (unbodied.NoMemory e) = tt

untold_template : (k : ℕ) (w : TemplateWhy) → IsReadContent (template_refused k w)
untold_template k unread.Syntax = tt
untold_template k unread.UntrackHere = tt
untold_template k unread.ItHere = tt
untold_template k unread.VoidChild = tt
untold_template k unread.RawText = tt
untold_template k unread.Nest = tt
untold_template k unread.Text = tt
untold_template k unread.Sources = tt
untold_template k unread.Lines = tt
untold_template k (unread.NoMemory e) = tt

effect_read : (n : List ℕ) (o : Option (List ℕ)) (ls : List NumberedLine) (x : bodies.Answer) → bodies.IsRead effects ls x → IsReadContent (body_content (effect_of n o) x)
effect_read n o ls (Ok b) read = body_read effects ls b read
effect_read n o ls (Err f) read = untold_body f.at f.why

handler_read : (t : List ℕ) (k : ℕ) (e : List ℕ) (ls : List NumberedLine) (x : bodies.Answer) → bodies.IsRead handlers ls x →
    IsReadContent (body_content (handler_of t k e) x)
handler_read t k e ls (Ok b) read = body_read handlers ls b read
handler_read t k e ls (Err f) read = untold_body f.at f.why

template_read : (n : List ℕ) (ls : List NumberedLine) (x : templates.Answer) → templates.IsRead ls x → IsReadContent (template_content n x)
template_read n ls (Ok t) read = read_law ls t read
template_read n ls (Err f) read = untold_template f.at f.why

-- what lines behind a first line come to
content_read : (r : Row) (a : Args (row r).1) (ls : List NumberedLine) (c : Content) → IsContentOf r a ls c → IsReadContent c
content_read effect a ls c is = subst IsReadContent (sym is.2) (effect_read a.0 a.1.0 ls is.0 is.1)
content_read on a ls c is = subst IsReadContent (sym is.2) (handler_read a.0 a.1.0 a.1.1.0 ls is.0 is.1)
content_read template a ls c is = subst IsReadContent (sym is.2) (template_read a.0 ls is.0 is.1)
content_read _ a ls c is = absurd is

block_read : (b : Bool) (n : ℕ) (c : Content) → IsReadContent c → IsReadItem (block_item b n c)
block_read b n (content.Faulty k) read = tt
block_read true n (content.Refused r) read = tt
block_read true n (content.Makes c) read = read
block_read false n (content.Refused r) read = tt
block_read false n (content.Makes c) read = tt

-- an item that a piece of a script is
pub item_read : (p : Piece) (i : Item) → IsItem p i → IsReadItem i
item_read p _ (long a) = tt
item_read p _ (unended a b) = tt
item_read p _ (block b c a d is) = block_read b.ends b.last.0 c (content_read b.head.0 b.head.1 b.inner c is)
item_read p _ (faulty a b d none) = tt
item_read p _ (says x a b w alone) =
    let number = (first_line p.lines).0 in
    unless_read number (fault_of x) (item_or number (command_of (said_line x))) (λ sound. or_read number (said_line x) (line_read x.0 x.1 alone sound))
