-- The lines that write a template.
use Rattle.std.specs.Prelude.{ℕ, List, ◌++◌, map, flat_map, codes}
use Rattle.formula_text.specs.Canonical.{unslotted}
use Rattle.formula_text.specs.Grammar.{Draft}
use Rattle.line_forms.specs.Printed.{line_text}
use Rattle.script_lines.specs.Lines.{NumberedLine, numbered}
use Rattle.sig_formula.specs.Trees.{Tree}
use Rattle.tpl_syntax.specs.declared.line.Line.{Line}
use Rattle.tpl_syntax.specs.declared.line.Line.TheVariants as line
use Rattle.tpl_syntax.specs.declared.line.Mark.TheVariants as mark
use Rattle.tpl_syntax.specs.declared.line.Purpose.TheVariants as purpose
use Rattle.tpl_syntax.specs.Grammar.{templates, Said, text, tag, attr, choice, other, loop, attempt, close}
use Rattle.tpl_syntax.specs.Lines.{Plan, mapped}

-- what a line says
abbrev pub said_of : Line Draft → Said
said_of (line.Plain (mark.Tag n)) = (tag, (n, tt))
said_of (line.Plain mark.Try) = (attempt, tt)
said_of (line.Plain mark.Else) = (other, tt)
said_of (line.Plain mark.End) = (close, tt)
said_of (line.Over purpose.Text f) = (text, (f, tt))
said_of (line.Over (purpose.Attr n) f) = (attr, (n, (f, tt)))
said_of (line.Over purpose.If f) = (choice, (f, tt))
said_of (line.Over purpose.Each f) = (loop, (f, tt))

-- what the line of a template with these names says
abbrev pub said_in : List (List ℕ) → Line Tree → Said
said_in ns l = said_of (mapped (unslotted ns) l)

-- the bytes of a line
abbrev pub bytes_of : Said → List ℕ
bytes_of x = line_text templates x

-- the bytes of a line, and the LF that ends it
abbrev pub ended_line : Said → List ℕ
ended_line x = bytes_of x ++ codes "\n"

-- what the lines of a template say
abbrev pub said_by : Plan → List Said
said_by t = map (said_in t.names) t.lines

-- the text of a template
abbrev pub plan_text : Plan → List ℕ
plan_text t = flat_map ended_line (said_by t)

-- the lines of a template, from 0 on
abbrev pub lines_of_plan : Plan → List NumberedLine
lines_of_plan t = numbered 0 (map bytes_of (said_by t))
