-- What lines are: a body, or refused.
use Rattle.std.specs.Prelude.{◌≡◌, ◌<◌, ℕ, List, map, Option, Some, None, Result, Ok, Err}
use Rattle.line_forms.specs.Blocks as blocks
use Rattle.script_lines.specs.Lines.{NumberedLine, last_number}
use Rattle.sig_untrack.specs.Stated.{Bodies}
use Rattle.body_text.specs.declared.allowance.Allowance.{Allowance}
use Rattle.body_text.specs.declared.fault.BodyFault.{BodyFault}
use Rattle.body_text.specs.declared.fault.BodyWhy.{BodyWhy}
use Rattle.body_text.specs.declared.fault.BodyWhy.TheVariants as why
use Rattle.body_text.specs.declared.line.Line.{Line}
use Rattle.body_text.specs.Grammar.{bodies, Said, said_line}
use Rattle.body_text.specs.Refusals.{fault_at, judged, refusal_of}
use Rattle.body_text.specs.Places.{places}
use Rattle.body_text.specs.Statements.{Statements, lines_of, body_of}

-- what lines say, each with its number
abbrev pub Sayings : Type 0
Sayings = List (ℕ × Said)

-- with so many begun, the lines say this, each where it may stand
abbrev pub Say : Allowance → ℕ → List NumberedLine → Sayings → Type 0
Say allowance depth ls xs = blocks.Say bodies (places allowance) depth ls xs

-- with so many begun, the line of this number is the first that says nothing which may stand there
abbrev pub IsFaulty : Allowance → ℕ → List NumberedLine → ℕ → Type 0
IsFaulty allowance depth ls k = blocks.IsFaulty bodies (places allowance) depth ls k

-- how many are begun behind lines that say this
abbrev pub reached : Allowance → ℕ → Sayings → ℕ
reached allowance depth xs = blocks.reached (places allowance) depth xs

-- the lines that are said
abbrev pub said_lines : Sayings → List Line
said_lines xs = map (λ x. said_line x.1) xs

-- a body, or why there is none
abbrev pub Answer : Type 0
Answer = Result Bodies BodyFault

-- what lines are where nothing is refused of them
abbrev pub unless_refused : Option BodyFault → Bodies → Answer
unless_refused None b = Ok b
unless_refused (Some f) b = Err f

-- what lines are that say this and spell these statements
abbrev pub answer_of : Allowance → Sayings → Statements → Answer
answer_of allowance xs s = unless_refused (refusal_of (judged allowance.formulas 0 xs)) (body_of s)

-- What lines are, where this is allowed: refused at the first faulty one; at the last, where something that is begun isn't ended; else
-- what they say.
pub data IsRead (allowance : Allowance) (ls : List NumberedLine) : Answer → Type 0 where
  faulty : (k : ℕ) → IsFaulty allowance 0 ls k → IsRead allowance ls (Err (fault_at k why.Syntax))
  unended : (xs : Sayings) → Say allowance 0 ls xs → 0 < reached allowance 0 xs → IsRead allowance ls (Err (fault_at (last_number ls) why.Syntax))
  says : (xs : Sayings) (s : Statements) → Say allowance 0 ls xs → said_lines xs ≡ lines_of s → IsRead allowance ls (answer_of allowance xs s)

-- why there is no body, where this is allowed: what the lines are, or memory
abbrev pub Refuses : Allowance → List NumberedLine → ℕ → BodyWhy → Type 0
Refuses allowance ls k (why.NoMemory e) = Unit {0}
Refuses allowance ls k w = IsRead allowance ls (Err (fault_at k w))
