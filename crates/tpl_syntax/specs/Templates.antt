-- What lines are: a template, or refused.
use Rattle.std.specs.Prelude.{◌≡◌, ℕ, true, false, List, [], ◌∷◌, map, Option, Some, None, Result, Ok, Err}
use Rattle.formula_text.specs.Grammar.{Draft}
use Rattle.formula_text.specs.Refusals.{slotted, with_names}
use Rattle.line_forms.specs.Blocks as blocks
use Rattle.script_lines.specs.Lines.{NumberedLine, last_number}
use Rattle.tpl_syntax.specs.declared.fault.TemplateFault.{TemplateFault}
use Rattle.tpl_syntax.specs.declared.fault.TemplateWhy.{TemplateWhy}
use Rattle.tpl_syntax.specs.declared.fault.TemplateWhy.TheVariants as why
use Rattle.tpl_syntax.specs.declared.line.Line.{Line}
use Rattle.tpl_syntax.specs.Grammar.{templates, Said, said_line}
use Rattle.tpl_syntax.specs.Refusals.{fault_at, judged, refusal_of}
use Rattle.tpl_syntax.specs.Lines.{Plan, formula_of, mapped}
use Rattle.tpl_syntax.specs.Places.{Place, is_closed, places, top}

-- what lines say, each with its number
abbrev pub Sayings : Type 0
Sayings = List (ℕ × Said)

-- from a place on, the lines say this, each where it may stand
abbrev pub Say : Place → List NumberedLine → Sayings → Type 0
Say p ls xs = blocks.Say templates places p ls xs

-- from a place on, the line of this number is the first that says nothing which may stand there
abbrev pub IsFaulty : Place → List NumberedLine → ℕ → Type 0
IsFaulty p ls k = blocks.IsFaulty templates places p ls k

-- the place behind lines that say this
abbrev pub reached : Place → Sayings → Place
reached p xs = blocks.reached places p xs

-- those names, and behind them the others of a formula
abbrev pub with_formula : List (List ℕ) → Option Draft → List (List ℕ)
with_formula ns None = ns
with_formula ns (Some f) = with_names ns f

-- those names, and behind them the others of the lines in the order of the text
abbrev pub with_lines : List (List ℕ) → List (Line Draft) → List (List ℕ)
with_lines ns [] = ns
with_lines ns (l ∷ ls) = with_lines (with_formula ns (formula_of l)) ls

-- the distinct names of lines
abbrev pub names_of : List (Line Draft) → List (List ℕ)
names_of ls = with_lines [] ls

-- the template of lines: the slots of its formulas are the places of its names
abbrev pub plan_of : List (Line Draft) → Plan
plan_of ls = record { lines = map (mapped (slotted (names_of ls))) ls; names = names_of ls }

-- a template, or why there is none
abbrev pub Answer : Type 0
Answer = Result Plan TemplateFault

-- what lines are where nothing is refused of them
abbrev pub unless_refused : Option TemplateFault → Plan → Answer
unless_refused None t = Ok t
unless_refused (Some f) t = Err f

-- what lines are that say this
abbrev pub answer_of : Sayings → Answer
answer_of xs = unless_refused (refusal_of (judged top xs)) (plan_of (map (λ x. said_line x.1) xs))

-- What lines are: refused at the first faulty one; at the last, where something that is begun isn't ended; else what they say.
pub data IsRead (ls : List NumberedLine) : Answer → Type 0 where
  faulty : (k : ℕ) → IsFaulty top ls k → IsRead ls (Err (fault_at k why.Syntax))
  unended : (xs : Sayings) → Say top ls xs → is_closed (reached top xs) ≡ false → IsRead ls (Err (fault_at (last_number ls) why.Syntax))
  says : (xs : Sayings) → Say top ls xs → is_closed (reached top xs) ≡ true → IsRead ls (answer_of xs)

-- why there is no template: what the lines are, or memory
abbrev pub Refuses : List NumberedLine → ℕ → TemplateWhy → Type 0
Refuses ls k (why.NoMemory e) = Unit {0}
Refuses ls k w = IsRead ls (Err (fault_at k w))
