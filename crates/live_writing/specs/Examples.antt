-- Worked lines, read and written: a handler of an event, the firing of one, the beginning of a journal, and why a computed ran.
use Rattle.std.specs.Prelude.{◌≡◌, ℕ, pos, false, true, [], ◌∷◌, ◌++◌, Some, None, codes}
use Rattle.std.specs.Fmt.{digits}
use Rattle.std.proofs.Common.{refl}
use Rattle.sig_base.specs.Words.{is_name, is_reserved}
use Rattle.sig_words.specs.Lexemes.{word, tag, number}
use Rattle.sig_untrack.specs.Stated.{Bodies}
use Rattle.line_forms.specs.Rows.{said_of}
use Rattle.body_text.specs.Printer.{body_text}
use Rattle.live_cmd.specs.declared.command.Bare.TheVariants as bares
use Rattle.live_cmd.specs.declared.command.Verb.TheVariants as verbs
use Rattle.live_cmd.specs.declared.command.Command.TheVariants as command
use Rattle.live_cmd.specs.declared.command.Item.TheVariants as item
use Rattle.live_cmd.specs.declared.line.Line.TheVariants as line
use Rattle.script_items.specs.Blocks.{is_head}
use Rattle.live_cmd.specs.Grammar.{Said, bare, commands, fire, on, said_line, verb, is_alone}
use Rattle.script_items.specs.Items.{item_of}
use Rattle.live_writing.specs.Printer.{command_text}

-- ---- `on counter 5 @click`

-- the first line of a handler of clicks at line 5 of the template `counter`
abbrev pub on_click : Said
on_click = (on, (codes "counter", (5, (codes "click", tt))))

-- it is read of its words
pub on_click_read : said_of commands (word (codes "on") ∷ word (codes "counter") ∷ number (pos 5) ∷ tag (codes "click") ∷ []) ≡ Some on_click
unfolding is_name is_reserved
on_click_read = refl

-- it begins a block
pub on_click_begins : is_head on ≡ true
on_click_begins = refl

-- it gives the template, the line and the event
pub on_click_said : said_line on_click ≡ line.On (codes "counter") 5 (codes "click")
on_click_said = refl

-- it is no command by itself
pub on_click_open : is_alone on_click ≡ false
on_click_open = refl

-- the lines of its body stand between it and the `end`
pub on_click_written : (b : Bodies) → command_text (command.On (codes "counter") 5 (codes "click") b)
    ≡ codes "on counter 5 @click\n" ++ (body_text b ++ codes "end\n")
unfolding digits
on_click_written b = refl

-- nothing stands behind the event
pub nothing_behind : said_of commands
    (word (codes "on") ∷ word (codes "counter") ∷ number (pos 5) ∷ tag (codes "click") ∷ word (codes "in") ∷ word (codes "o") ∷ []) ≡ None
unfolding is_name is_reserved
nothing_behind = refl

-- ---- `fire main 12 @click`

-- a click at node 12 of the page `main`
abbrev pub click : Said
click = (fire, (codes "main", (12, (codes "click", tt))))

-- it is read of its words
pub click_read : said_of commands (word (codes "fire") ∷ word (codes "main") ∷ number (pos 12) ∷ tag (codes "click") ∷ []) ≡ Some click
unfolding is_name is_reserved
click_read = refl

-- it is a command that fires the event
pub click_is : (n : ℕ) → item_of n click ≡ item.Do (command.Fire (codes "main") 12 (codes "click"))
click_is n = refl

-- it is written as it is read
pub click_written : command_text (command.Fire (codes "main") 12 (codes "click")) ≡ codes "fire main 12 @click\n"
unfolding digits
click_written = refl

-- an event has its `@`
pub event_marked : said_of commands (word (codes "fire") ∷ word (codes "main") ∷ number (pos 12) ∷ word (codes "click") ∷ []) ≡ None
unfolding is_name is_reserved
event_marked = refl

-- ---- `record`

-- it is read of its word
pub record_read : said_of commands (word (codes "record") ∷ []) ≡ Some (bare bares.Record, tt)
record_read = refl

-- it is a command of one word
pub record_is : (n : ℕ) → item_of n (bare bares.Record, tt) ≡ item.Do (command.Bare bares.Record)
record_is n = refl

-- it is written as it is read
pub record_written : command_text (command.Bare bares.Record) ≡ codes "record\n"
record_written = refl

-- ---- `why total`

-- it is read of its words
pub why_read : said_of commands (word (codes "why") ∷ word (codes "total") ∷ []) ≡ Some (verb verbs.Why, (codes "total", tt))
unfolding is_name is_reserved
why_read = refl

-- it is a command of a verb and a name
pub why_is : (n : ℕ) → item_of n (verb verbs.Why, (codes "total", tt)) ≡ item.Do (command.Named verbs.Why (codes "total"))
why_is n = refl

-- it is written as it is read
pub why_written : command_text (command.Named verbs.Why (codes "total")) ≡ codes "why total\n"
why_written = refl

-- it asks of something
pub why_named : said_of commands (word (codes "why") ∷ []) ≡ None
why_named = refl
