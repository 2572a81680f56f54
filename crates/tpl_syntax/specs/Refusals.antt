-- What is refused of lines of a template that say something, each where it may stand.
use Rattle.std.specs.Prelude.{ℕ, ◌+◌, ◌==◌, ◌&&◌, ◌||◌, not, nat_lt, Bool, false, List, [], ◌∷◌, length}
use Rattle.std.specs.Prelude.{Option, Some, None, option_map, option_and_then}
use Rattle.std.specs.Prelude.{if◌then◌else◌}
use Rattle.std.specs.Option.{option_or}
use Rattle.std.specs.Str.{chars}
use Rattle.sig_base.specs.declared.limits.TheConstants.{MOST_TEMPLATE_LINES}
use Rattle.sig_base.specs.declared.scalar.Scalar.TheVariants as scalar
use Rattle.formula_text.specs.declared.wired.Allow.{Allow}
use Rattle.formula_text.specs.declared.wired.FormulaFault.{FormulaFault}
use Rattle.formula_text.specs.declared.wired.FormulaFault.TheVariants as fault
use Rattle.formula_text.specs.Grammar.{Draft, leaf}
use Rattle.formula_text.specs.Signs.{constant}
use Rattle.formula_text.specs.Slots.{refusal}
use Rattle.tpl_syntax.specs.declared.fault.TemplateFault.{TemplateFault}
use Rattle.tpl_syntax.specs.declared.fault.TemplateWhy.{TemplateWhy}
use Rattle.tpl_syntax.specs.declared.fault.TemplateWhy.TheVariants as why
use Rattle.tpl_syntax.specs.declared.judge.TheConstants.{MOST_DEPTH}
use Rattle.tpl_syntax.specs.declared.line.Line.{Line}
use Rattle.tpl_syntax.specs.declared.line.Line.TheVariants as line
use Rattle.tpl_syntax.specs.declared.line.Purpose.TheVariants as purpose
use Rattle.tpl_syntax.specs.declared.place.Content.{Content}
use Rattle.tpl_syntax.specs.declared.place.Content.TheVariants as content
use Rattle.tpl_syntax.specs.Grammar.{Said, said_line}
use Rattle.tpl_syntax.specs.Lines.{formula_of}
use Rattle.tpl_syntax.specs.Places.{Place, Role, content_at, in_loop, is_child, is_each, is_opening, moved, role_of}

-- ---- one line

-- its formula may speak of a row in an `each`, and each of its reads is tracked
abbrev pub allowed : Place → Allow
allowed p = record { row = in_loop p.levels; untrack = false }

-- what is wrong with its formula, the first of it
abbrev pub fault_of : Place → Line Draft → Option FormulaFault
fault_of p l = option_and_then (refusal (allowed p)) (formula_of l)

-- whether `</` stands in these characters, where `<` stands before them or not
abbrev pub has_end : Bool → List ℕ → Bool
has_end before [] = false
has_end before (c ∷ cs) = (before && c == 47) || has_end (c == 60) cs

-- a literal that may stand in a text that isn't escaped
abbrev pub is_bare : Draft → Bool
is_bare (leaf (constant (scalar.Text t))) = not (has_end false (chars t))
is_bare _ = false

-- whether a line is a text of such a literal
abbrev pub is_bare_text : Line Draft → Bool
is_bare_text (line.Over purpose.Text f) = is_bare f
is_bare_text _ = false

-- a formula that speaks of what isn't there
abbrev pub missing : Option FormulaFault → Option TemplateWhy
missing (Some fault.UntrackHere) = Some why.UntrackHere
missing (Some fault.ItHere) = Some why.ItHere
missing _ = None

-- a child where the element has none, or one that isn't a bare text where it has no others
abbrev pub in_element : Content → Bool → Role → Option TemplateWhy
in_element content.Nothing bare r = if is_child r then Some why.VoidChild else None
in_element content.Bare bare r = if is_child r && not bare then Some why.RawText else None
in_element content.Lines bare r = None

-- an `each` in an `each`, or more than `MOST_DEPTH` levels, of which the template is one
abbrev pub is_nested : Place → Role → Bool
is_nested p r = (is_each r && in_loop p.levels) || (is_opening r && nat_lt MOST_DEPTH (length p.levels + 2))

-- a formula that is too high
abbrev pub high : Option FormulaFault → Option TemplateWhy
high (Some fault.Nest) = Some why.Nest
high _ = None

-- a formula that has too much of something
abbrev pub excess : Option FormulaFault → Option TemplateWhy
excess (Some fault.TextLong) = Some why.Text
excess (Some fault.Sources) = Some why.Sources
excess _ = None

-- why a line has something that may not stand there, by what is wrong with its formula and whether it is a bare text
abbrev pub misplacing : Place → Option FormulaFault → Bool → Role → Option TemplateWhy
misplacing p wrong bare r =
    option_or (missing wrong) (option_or (in_element (content_at p.levels) bare r) (if is_nested p r then Some why.Nest else high wrong))

-- ---- all lines

-- what is wrong with a line: what may not stand there, and what there is too much of
pub record Judged : Type 0 where
  pub number : ℕ
  pub misplaced : Option TemplateWhy
  pub excess : Option TemplateWhy

-- the same of a line that says this
abbrev pub judged_at : Place → ℕ → Line Draft → Judged
judged_at p k l =
    record { number = k; misplaced = misplacing p (fault_of p l) (is_bare_text l) (role_of l); excess = excess (fault_of p l) }

-- the same of lines from a place on
abbrev pub judged : Place → List (ℕ × Said) → List Judged
judged p [] = []
judged p (x ∷ xs) = judged_at p x.0 (said_line x.1) ∷ judged (moved p (said_line x.1)) xs

-- a fault at a line
abbrev pub fault_at : ℕ → TemplateWhy → TemplateFault
fault_at k w = record { at = k; why = w }

-- the first line that has something where it may not stand
abbrev pub first_misplaced : List Judged → Option TemplateFault
first_misplaced [] = None
first_misplaced (j ∷ js) = option_or (option_map (fault_at j.number) j.misplaced) (first_misplaced js)

-- the first line that has too much of something
abbrev pub first_excess : List Judged → Option TemplateFault
first_excess [] = None
first_excess (j ∷ js) = option_or (option_map (fault_at j.number) j.excess) (first_excess js)

-- a template has at most `MOST_TEMPLATE_LINES` lines
abbrev pub many_lines : List Judged → Option TemplateFault
many_lines js = if nat_lt MOST_TEMPLATE_LINES (length js) then Some (fault_at (length js) why.Lines) else None

-- What lines are refused for: first what may not stand where it does, at the first such line, then too much of something, at the first
-- such line, then too many lines.
abbrev pub refusal_of : List Judged → Option TemplateFault
refusal_of js = option_or (first_misplaced js) (option_or (first_excess js) (many_lines js))
