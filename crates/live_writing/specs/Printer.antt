-- The lines that write a command.
use Rattle.std.specs.Prelude.{ℕ, List, [], ◌∷◌, ◌++◌, map, flat_map, codes, Option, Some, None}
use Rattle.formula_text.specs.Canonical.{unslotted}
use Rattle.formula_text.specs.Grammar.{Draft}
use Rattle.formula_text.specs.Slots.{Wiring}
use Rattle.line_forms.specs.Printed.{line_text}
use Rattle.script_lines.specs.Lines.{NumberedLine, numbered}
use Rattle.sig_untrack.specs.Stated.{Bodies}
use Rattle.body_text.specs.Statements.{lines_of}
use Rattle.body_text.specs.Grammar as body_grammar
use Rattle.body_text.specs.Printer as body
use Rattle.tpl_syntax.specs.Lines.{Plan}
use Rattle.tpl_syntax.specs.Printer as template_text
use Rattle.live_cmd.specs.declared.command.Command.{Command}
use Rattle.live_cmd.specs.declared.command.Command.TheVariants as command
use Rattle.live_cmd.specs.declared.command.RowEdit.{RowEdit}
use Rattle.live_cmd.specs.declared.command.RowEdit.TheVariants as edit
use Rattle.live_cmd.specs.declared.command.SourceText.TheVariants as source
use Rattle.live_cmd.specs.declared.command.Try.{Try}
use Rattle.live_cmd.specs.declared.command.Try.TheVariants as tried
use Rattle.live_cmd.specs.declared.command.SourceText.{SourceText}
use Rattle.live_cmd.specs.Grammar.{commands, Said, verb, bare, cell, set, list, insert_row, remove_row, move_row, put_field, computed, computed_host, rewire, rewire_host, owner, watcher, tries_get, tries_set, tries_watch, tries_unwatch, watch, unwatch, mount, effect, on, fire, template, close}

-- the formula with names in place of its slots
abbrev pub draft_of : Wiring → Draft
draft_of w = unslotted w.1 w.0

-- what the line of a computed says that stands inside an owner, or outside of any
abbrev pub computed_line : List ℕ → SourceText → Option (List ℕ) → Said
computed_line n (source.Formula w) o = (computed, (n, (draft_of w, (o, tt))))
computed_line n (source.Host k ns) o = (computed_host, (n, (k, (ns, (o, tt)))))

-- what the line of a rewiring says
abbrev pub rewire_line : List ℕ → SourceText → Said
rewire_line n (source.Formula w) = (rewire, (n, (draft_of w, tt)))
rewire_line n (source.Host k ns) = (rewire_host, (n, (k, (ns, tt))))

-- what the line of a watcher says that tries something, or nothing
abbrev pub watcher_line : List ℕ → Option Try → Said
watcher_line w None = (watcher, (w, tt))
watcher_line w (Some (tried.Get n)) = (tries_get, (w, (n, tt)))
watcher_line w (Some (tried.Set n v)) = (tries_set, (w, (n, (v, tt))))
watcher_line w (Some (tried.Watch n ns)) = (tries_watch, (w, (n, (ns, tt))))
watcher_line w (Some (tried.Unwatch n m)) = (tries_unwatch, (w, (n, (m, tt))))

-- what the line of an edit says
abbrev pub edit_line : List ℕ → RowEdit → Said
edit_line n (edit.Insert p k vs) = (insert_row, (n, (p, (k, (vs, tt)))))
edit_line n (edit.Remove k) = (remove_row, (n, (k, tt)))
edit_line n (edit.Move k p) = (move_row, (n, (k, (p, tt))))
edit_line n (edit.Put k f v) = (put_field, (n, (k, (f, (v, tt)))))

-- what the lines of a command say, those inside a block aside
abbrev pub said_by : Command → List Said
said_by (command.Named v n) = (verb v, (n, tt)) ∷ []
said_by (command.Cell n v k o) = (cell, (n, (v, (k, (o, tt))))) ∷ []
said_by (command.List n fs o) = (list, (n, (fs, (o, tt)))) ∷ []
said_by (command.Edit n e) = edit_line n e ∷ []
said_by (command.Set n v) = (set, (n, (v, tt))) ∷ []
said_by (command.Computed n s o) = computed_line n s o ∷ []
said_by (command.Rewire n s) = rewire_line n s ∷ []
said_by (command.Owner n o) = (owner, (n, (o, tt))) ∷ []
said_by (command.Watcher w t) = watcher_line w t ∷ []
said_by (command.Watch w ns) = (watch, (w, (ns, tt))) ∷ []
said_by (command.Unwatch w n) = (unwatch, (w, (n, tt))) ∷ []
said_by (command.Mount n t o) = (mount, (n, (t, (o, tt)))) ∷ []
said_by (command.Bare b) = (bare b, tt) ∷ []
said_by (command.Effect n b o) = (effect, (n, (o, tt))) ∷ (close, tt) ∷ []
said_by (command.On t k e b) = (on, (t, (k, (e, tt)))) ∷ (close, tt) ∷ []
said_by (command.Fire p k e) = (fire, (p, (k, (e, tt)))) ∷ []
said_by (command.Template n t) = (template, (n, tt)) ∷ (close, tt) ∷ []

-- the bytes of a line
abbrev pub bytes_of : Said → List ℕ
bytes_of x = line_text commands x

-- the bytes of a line, and the LF that ends it
abbrev pub ended_line : Said → List ℕ
ended_line x = bytes_of x ++ codes "\n"

-- the bytes of a body's lines
abbrev pub body_lines : Bodies → List (List ℕ)
body_lines b = map (λ l. body.bytes_of (body_grammar.said_of l)) (lines_of (body.meaning b))

-- the bytes of a template's lines
abbrev pub template_lines : Plan → List (List ℕ)
template_lines t = map template_text.bytes_of (template_text.said_by t)

-- the text of a command
abbrev pub command_text : Command → List ℕ
command_text (command.Effect n b o) = ended_line (effect, (n, (o, tt))) ++ (body.body_text b ++ ended_line (close, tt))
command_text (command.On t k e b) = ended_line (on, (t, (k, (e, tt)))) ++ (body.body_text b ++ ended_line (close, tt))
command_text (command.Template n t) = ended_line (template, (n, tt)) ++ (template_text.plan_text t ++ ended_line (close, tt))
command_text c = flat_map ended_line (said_by c)

-- the bytes of its lines
abbrev pub lines_by : Command → List (List ℕ)
lines_by (command.Effect n b o) = bytes_of (effect, (n, (o, tt))) ∷ (body_lines b ++ bytes_of (close, tt) ∷ [])
lines_by (command.On t k e b) = bytes_of (on, (t, (k, (e, tt)))) ∷ (body_lines b ++ bytes_of (close, tt) ∷ [])
lines_by (command.Template n t) = bytes_of (template, (n, tt)) ∷ (template_lines t ++ bytes_of (close, tt) ∷ [])
lines_by c = map bytes_of (said_by c)

-- its lines, of which the first has this number
abbrev pub lines_of_command : ℕ → Command → List NumberedLine
lines_of_command n c = numbered n (lines_by c)
