-- How a template is stored where a value holds one.
use Rattle.std.specs.Prelude.{◌≡◌, ◌⊎◌, ℕ, List, refl}
use Rattle.std.specs.Coded.{Coded, code_by, coded_list, coded_ℕ, coded×, coded⊎}
use Rattle.std.proofs.Common.{inl, inr}
use Rattle.sig_formula.specs.Codes.{tree_code}
use Rattle.sig_formula.specs.Trees.{Tree}
use Rattle.tpl_syntax.specs.contracts.line.Mark as mark_code
use Rattle.tpl_syntax.specs.contracts.line.Purpose as purpose_code
use Rattle.tpl_syntax.specs.declared.line.Line.{Line}
use Rattle.tpl_syntax.specs.declared.line.Line.TheVariants as line
use Rattle.tpl_syntax.specs.declared.line.Mark.{Mark}
use Rattle.tpl_syntax.specs.declared.line.Purpose.{Purpose}
use Rattle.tpl_syntax.specs.Lines.{Plan}

-- a line without a formula, or one with it
abbrev pub Stored : Type 0
Stored = Mark ⊎ (Purpose × Tree)

-- a line as it is stored
abbrev stored : Line Tree → Stored
stored (line.Plain m) = inl m
stored (line.Over p f) = inr (p, f)

-- the line that is stored so
abbrev line_from : Stored → Line Tree
line_from (inl m) = line.Plain m
line_from (inr a) = line.Over a.0 a.1

-- the line is had back
pub line_from-stored : (l : Line Tree) → line_from (stored l) ≡ l
line_from-stored (line.Plain m) = refl
line_from-stored (line.Over p f) = refl

-- a line is stored as one of these
abbrev pub line_code : Coded (Line Tree)
line_code =
    code_by Stored (coded⊎ mark_code.the_row.coded (coded× purpose_code.the_row.coded tree_code)) stored line_from line_from-stored

-- a template is stored as its lines and its names
abbrev pub plan_code : Coded Plan
plan_code =
    code_by (List (Line Tree) × List (List ℕ)) (coded× (coded_list line_code) (coded_list (coded_list coded_ℕ)))
    (λ p. (p.lines, p.names)) (λ s. record { lines = s.0; names = s.1 }) (λ _. refl)
