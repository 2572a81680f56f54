-- What the program holds of lines that it reads.
use Rattle.std.specs.Prelude.{◌≡◌, ◌<◌, ℕ, List, [], ◌∷◌, Option, Some, None, Result, Ok, Err, IsTrue}
use Rattle.formula_text.specs.declared.wired.Allow.{Allow}
use Rattle.formula_text.specs.declared.wired.FormulaFault.{FormulaFault}
use Rattle.line_forms.specs.Findings as findings
use Rattle.line_forms.specs.Told.{unless_faulty}
use Rattle.script_lines.specs.Lines.{NumberedLine}
use Rattle.sig_untrack.specs.declared.body.Body.{Body}
use Rattle.sig_untrack.specs.Stated.{before, no_bodies}
use Rattle.sig_words.specs.Lexemes.{Lexeme}
use Rattle.body_text.specs.declared.allowance.Allowance.{Allowance}
use Rattle.body_text.specs.declared.fault.BodyFault.{BodyFault}
use Rattle.body_text.specs.declared.judge.ReadLine.{ReadLine}
use Rattle.body_text.specs.declared.line.Found.{Found}
use Rattle.body_text.specs.declared.line.Line.{Line}
use Rattle.body_text.specs.declared.read.Reading.{Reading}
use Rattle.body_text.specs.declared.read.Reading.TheVariants as reading
use Rattle.body_text.specs.Grammar.{Row, bodies, Said, Writes, said_line}
use Rattle.body_text.specs.Refusals.{Judged, excess, fault_of, misplacing}
use Rattle.body_text.specs.Places.{fits, kind_of, moved}
use Rattle.body_text.specs.Verdicts.{Answer, IsFaulty, Say, Sayings, reached}

-- ---- one line

-- something that was read, or this is wrong with it
abbrev pub IsTold : {A : Type 0} → Option FormulaFault → A → Result A FormulaFault → Type 0
IsTold wrong x (Ok y) = (y ≡ x) × (wrong ≡ None)
IsTold wrong x (Err f) = wrong ≡ Some f

-- a line that says this, or what is wrong with it
abbrev pub line_or_fault : Allow → Said → Result Line FormulaFault
line_or_fault allow x = unless_faulty (fault_of allow x) (said_line x)

-- what is found in a line that says this
abbrev pub found_of : Allow → Said → Found
found_of allow x = record { kind = kind_of (said_line x); line = line_or_fault allow x }

-- what is found in the tokens behind the first word, as a line of this row
abbrev pub found_as : Allow → Row → List Lexeme → Option Found
found_as allow r ls = findings.found_as bodies (found_of allow) r ls

-- what is found by the first of the rows that reads them
abbrev pub found_first : Allow → List Row → List Lexeme → Option Found
found_first allow rs ls = findings.found_first bodies (found_of allow) rs ls

-- what is wrong with a line that was read
abbrev pub fault_told : Result Line FormulaFault → Option FormulaFault
fault_told (Ok l) = None
fault_told (Err f) = Some f

-- what was found in a line, where so many are begun
abbrev pub read_at : ℕ → ℕ → Found → ReadLine
read_at depth k f = record { number = k; misplaced = misplacing depth f.kind (fault_told f.line); excess = excess (fault_told f.line); line = f.line }

-- what is read, where so many are begun, of the line of a number that says this
abbrev pub read_of : Allow → ℕ → ℕ × Said → ReadLine
read_of allow depth x = read_at depth x.0 (found_of allow x.1)

-- ---- all lines

-- what is read of lines that say this
abbrev pub readings : Allow → ℕ → Sayings → List ReadLine
readings allow depth [] = []
readings allow depth (x ∷ xs) = read_of allow depth x ∷ readings allow (moved depth (kind_of (said_line x.1))) xs

-- from where so many are begun up to where so many are, the lines were read so
abbrev pub AreRead : Allowance → ℕ → List NumberedLine → List ReadLine → ℕ → Type 0
AreRead allowance depth [] [] to = depth ≡ to
AreRead allowance depth (l ∷ ls) (r ∷ rs) to =
    (x : Said) × Writes x l.1 × IsTrue (fits allowance depth (kind_of (said_line x))) × (r ≡ read_of allowance.formulas depth (l.0, x))
    × AreRead allowance (moved depth (kind_of (said_line x))) ls rs to
AreRead allowance depth _ _ to = ⊥

-- lines say something, and something that they begin isn't ended
pub record Unended (allowance : Allowance) (ls : List NumberedLine) : Type 0 where
  pub xs : Sayings
  pub say : Say allowance 0 ls xs
  pub begun : 0 < reached allowance 0 xs

-- what was read of the lines of a body
abbrev pub IsReading : Allowance → List NumberedLine → Reading → Type 0
IsReading allowance ls (reading.Faulty k) = IsFaulty allowance 0 ls k
IsReading allowance ls reading.Unended = Unended allowance ls
IsReading allowance ls (reading.Said rs) = AreRead allowance 0 ls rs.items 0

-- what is wrong with a line that was read
abbrev pub judged_read : ReadLine → Judged
judged_read r = record { number = r.number; misplaced = r.misplaced; excess = r.excess }

-- ---- lines that nothing is wrong with

-- a line before those that nothing is wrong with, if nothing is wrong with it
abbrev pub with_line : Result Line FormulaFault → List Line → List Line
with_line (Ok l) ls = l ∷ ls
with_line (Err f) ls = ls

-- the lines that nothing is wrong with
abbrev pub sound_lines : List ReadLine → List Line
sound_lines [] = []
sound_lines (r ∷ rs) = with_line r.line (sound_lines rs)

-- a body that is held, or why there is none
abbrev pub answer_held : Result Body BodyFault → Answer
answer_held (Ok b) = Ok (before b no_bodies)
answer_held (Err f) = Err f
