-- The lines that write a body.
use Rattle.std.specs.Prelude.{ℕ, zero, suc, List, [], ◌∷◌, ◌++◌, map, flat_map, codes}
use Rattle.effect_model.specs.declared.plain.Plain.{Plain}
use Rattle.effect_model.specs.Lines.{mapped}
use Rattle.sig_formula.specs.Trees.{Tree}
use Rattle.formula_text.specs.Canonical.{named, unslotted}
use Rattle.line_forms.specs.Printed.{line_text}
use Rattle.script_lines.specs.Lines.{NumberedLine, numbered}
use Rattle.sig_untrack.specs.Stated as stated
use Rattle.sig_untrack.specs.Stated.{Stated, Rewiring, Bodies, no_bodies, body}
use Rattle.body_text.specs.declared.line.Line.{Line}
use Rattle.body_text.specs.declared.line.Line.TheVariants as line
use Rattle.body_text.specs.declared.line.Source.{Source}
use Rattle.body_text.specs.declared.line.Source.TheVariants as source
use Rattle.body_text.specs.Grammar.{bodies, Said, said_of}
use Rattle.body_text.specs.Statements.{Statement, Statements, done, plain, rewire, when, effect, lines_of}

-- ---- the text of statements

-- the bytes of a line
abbrev pub bytes_of : Said → List ℕ
bytes_of x = line_text bodies x

-- the bytes of a line, and the LF that ends it
abbrev pub ended_line : Said → List ℕ
ended_line x = bytes_of x ++ codes "\n"

-- the text of lines
abbrev pub lines_text : List Line → List ℕ
lines_text ls = flat_map (λ l. ended_line (said_of l)) ls

-- the text of statements
abbrev pub text_of : Statements → List ℕ
text_of s = lines_text (lines_of s)

-- the lines of a text of statements, from 0 on
abbrev pub lines_of_text : Statements → List NumberedLine
lines_of_text s = numbered 0 (map (λ l. bytes_of (said_of l)) (lines_of s))

-- ---- the statements of a body

-- what the places of a body stand for
pub record Parts : Type 0 where
  pub targets : List (List ℕ)
  pub names : List (List ℕ)
  pub effects : List Statements
  pub rewires : List Rewiring

-- the statements at a place
abbrev pub effect_at : List Statements → ℕ → Statements
effect_at [] n = done
effect_at (e ∷ es) zero = e
effect_at (e ∷ es) (suc n) = effect_at es n

-- a source with names in place of slots
abbrev pub source_of : stated.Source → List (List ℕ) → Source
source_of (stated.formula t) ns = source.Formula (unslotted ns t)
source_of (stated.host k) ns = source.Host k ns

-- a rewiring with names in place of places
abbrev pub rewire_line : List (List ℕ) → Rewiring → Line
rewire_line ts r = line.Rewire (named ts r.target) (source_of r.source r.names)

-- one line with names in place of places and slots
abbrev pub named_line : List (List ℕ) → List (List ℕ) → Plain ℕ ℕ Tree → Statement
named_line ts ns a = mapped (named ts) (named ts) (unslotted ns) a

-- the rewiring at a place, before others; nothing where none is there
abbrev pub rewired_at : List (List ℕ) → List Rewiring → ℕ → Statements → Statements
rewired_at ts [] n rest = rest
rewired_at ts (r ∷ rs) zero rest = rewire (named ts r.target) (source_of r.source r.names) rest
rewired_at ts (r ∷ rs) (suc n) rest = rewired_at ts rs n rest

-- statements with names in place of places
abbrev pub meant : Parts → Stated → Statements
meant b stated.no_more = done
meant b (stated.plain a rest) = plain (named_line b.targets b.names a) (meant b rest)
meant b (stated.when x inner rest) = when (unslotted b.names x) (meant b inner) (meant b rest)
meant b (stated.effect n rest) = effect (effect_at b.effects n) (meant b rest)
meant b (stated.rewire n rest) = rewired_at b.targets b.rewires n (meant b rest)

-- the statements of each of these bodies
abbrev pub meanings : Bodies → List Statements
meanings no_bodies = []
meanings (body ss ts ns es rs others) = meant (record { targets = ts; names = ns; effects = meanings es; rewires = rs }) ss ∷ meanings others

-- the statements of the first
abbrev pub meaning : Bodies → Statements
meaning bs = effect_at (meanings bs) 0

-- the text of a body
abbrev pub body_text : Bodies → List ℕ
body_text b = text_of (meaning b)
