-- What is refused of lines of a body that say something, each where it may stand.
use Rattle.std.specs.Prelude.{ℕ, ◌+◌, nat_lt, Bool, false, List, [], ◌∷◌, length, Option, Some, None, option_map, if◌then◌else◌}
use Rattle.std.specs.Option.{option_or}
use Rattle.formula_text.specs.declared.wired.Allow.{Allow}
use Rattle.formula_text.specs.declared.wired.FormulaFault.{FormulaFault}
use Rattle.formula_text.specs.declared.wired.FormulaFault.TheVariants as fault
use Rattle.line_forms.specs.Told.{fault_along}
use Rattle.body_text.specs.declared.fault.BodyFault.{BodyFault}
use Rattle.body_text.specs.declared.fault.BodyWhy.{BodyWhy}
use Rattle.body_text.specs.declared.fault.BodyWhy.TheVariants as why
use Rattle.body_text.specs.declared.judge.TheConstants.{MOST_BODY_LINES, MOST_LEVELS}
use Rattle.body_text.specs.declared.line.LineKind.{LineKind}
use Rattle.body_text.specs.declared.line.LineKind.TheVariants as kind
use Rattle.body_text.specs.Grammar.{Said, row, said_line}
use Rattle.body_text.specs.Places.{kind_of, moved}

-- ---- one line

-- what is wrong with its formula, where this is allowed to it, or with the arguments of its host formula, the first of it
abbrev pub fault_of : Allow → Said → Option FormulaFault
fault_of allow x = fault_along allow (row x.0).1 x.1

-- a formula that speaks of what isn't there
abbrev pub missing : Option FormulaFault → Option BodyWhy
missing (Some fault.UntrackHere) = Some why.UntrackHere
missing (Some fault.ItHere) = Some why.ItHere
missing _ = None

-- more than `MOST_LEVELS` levels, of which the body is one
abbrev pub is_nested : ℕ → LineKind → Bool
is_nested depth (kind.Opens s) = nat_lt MOST_LEVELS (depth + 2)
is_nested depth _ = false

-- a formula that is too high
abbrev pub high : Option FormulaFault → Option BodyWhy
high (Some fault.Nest) = Some why.Nest
high _ = None

-- what has too much of something
abbrev pub excess : Option FormulaFault → Option BodyWhy
excess (Some fault.TextLong) = Some why.Text
excess (Some fault.Sources) = Some why.Sources
excess _ = None

-- why a line has something that may not stand there, by what is wrong with it
abbrev pub misplacing : ℕ → LineKind → Option FormulaFault → Option BodyWhy
misplacing depth k wrong = option_or (missing wrong) (if is_nested depth k then Some why.Nest else high wrong)

-- ---- all lines

-- what is wrong with a line: what may not stand there, and what there is too much of
pub record Judged : Type 0 where
  pub number : ℕ
  pub misplaced : Option BodyWhy
  pub excess : Option BodyWhy

-- the same of a line at a place, by what is wrong with it
abbrev pub judged_at : ℕ → ℕ → LineKind → Option FormulaFault → Judged
judged_at depth n k wrong = record { number = n; misplaced = misplacing depth k wrong; excess = excess wrong }

-- the same of lines from a place on, where this is allowed to formulas
abbrev pub judged : Allow → ℕ → List (ℕ × Said) → List Judged
judged allow depth [] = []
judged allow depth (x ∷ xs) =
    judged_at depth x.0 (kind_of (said_line x.1)) (fault_of allow x.1) ∷ judged allow (moved depth (kind_of (said_line x.1))) xs

-- a fault at a line
abbrev pub fault_at : ℕ → BodyWhy → BodyFault
fault_at k w = record { at = k; why = w }

-- the first line that has something where it may not stand
abbrev pub first_misplaced : List Judged → Option BodyFault
first_misplaced [] = None
first_misplaced (j ∷ js) = option_or (option_map (fault_at j.number) j.misplaced) (first_misplaced js)

-- the first line that has too much of something
abbrev pub first_excess : List Judged → Option BodyFault
first_excess [] = None
first_excess (j ∷ js) = option_or (option_map (fault_at j.number) j.excess) (first_excess js)

-- a body has at most `MOST_BODY_LINES` lines, those of its nested effects too
abbrev pub many_lines : List Judged → Option BodyFault
many_lines js = if nat_lt MOST_BODY_LINES (length js) then Some (fault_at (length js) why.Lines) else None

-- What the lines are refused for: first what may not stand where it does, at the first such line, then too much of something, at the
-- first such line, then too many lines.
abbrev pub refusal_of : List Judged → Option BodyFault
refusal_of js = option_or (first_misplaced js) (option_or (first_excess js) (many_lines js))
