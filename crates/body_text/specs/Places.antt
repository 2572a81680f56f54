-- Where a line may stand among the lines of a body.
use Rattle.std.specs.Prelude.{ℕ, ◌+◌, ◌-◌, ◌==◌, not, Bool}
use Rattle.effect_model.specs.declared.plain.Plain.{Plain}
use Rattle.effect_model.specs.declared.plain.Plain.TheVariants as statement
use Rattle.line_forms.specs.Blocks as blocks
use Rattle.body_text.specs.declared.allowance.Allowance.{Allowance}
use Rattle.body_text.specs.declared.allowance.StatementSet.{StatementSet}
use Rattle.body_text.specs.declared.allowance.StatementSet.TheVariants as set
use Rattle.body_text.specs.Allowances.{has}
use Rattle.body_text.specs.declared.line.Line.{Line}
use Rattle.body_text.specs.declared.line.Line.TheVariants as line
use Rattle.body_text.specs.declared.line.LineKind.{LineKind}
use Rattle.body_text.specs.declared.line.LineKind.TheVariants as kind
use Rattle.body_text.specs.Grammar.{Said, said_line}

-- the least set that a statement of one line stands in
abbrev pub set_of : {C T F : Type 0} → Plain C T F → StatementSet
set_of (statement.Set n x) = set.Common
set_of (statement.Log x) = set.Common
set_of _ = set.All

-- what a line is for its place
abbrev pub kind_of : Line → LineKind
kind_of (line.Plain a) = kind.Plain (set_of a)
kind_of (line.Rewire n s) = kind.Plain set.All
kind_of (line.When x) = kind.Opens set.Common
kind_of line.Effect = kind.Opens set.All
kind_of line.End = kind.End

-- A place is the number of those that are begun there and not ended. An `end` may stand where there is one, any other line where its
-- statement is allowed.
abbrev pub fits : Allowance → ℕ → LineKind → Bool
fits allowance depth (kind.Plain s) = has allowance.statements s
fits allowance depth (kind.Opens s) = has allowance.statements s
fits allowance depth kind.End = not (depth == 0)

-- the place behind a line
abbrev pub moved : ℕ → LineKind → ℕ
moved depth (kind.Plain s) = depth
moved depth (kind.Opens s) = depth + 1
moved depth kind.End = depth - 1

-- the places of a body's lines, where this is allowed
abbrev pub places : Allowance → blocks.Places Said ℕ
places allowance = record { fits = λ n x. fits allowance n (kind_of (said_line x)); moved = λ n x. moved n (kind_of (said_line x)) }
