-- The lines of a template, whatever stands for their formulas.
use Rattle.std.specs.Prelude.{ℕ, zero, suc, Bool, true, false, List, slice_get, Option, Some, None}
use Rattle.sig_formula.specs.Trees.{Tree}
use Rattle.tpl_syntax.specs.declared.line.Line.{Line}
use Rattle.tpl_syntax.specs.declared.line.Line.TheVariants as line
use Rattle.tpl_syntax.specs.declared.line.Mark.TheVariants as mark

-- the line with another formula in place of its own
abbrev pub mapped : {F G : Type 0} → (F → G) → Line F → Line G
mapped f (line.Plain m) = line.Plain m
mapped f (line.Over p x) = line.Over p (f x)

-- its formula
abbrev pub formula_of : {F : Type 0} → Line F → Option F
formula_of (line.Plain m) = None
formula_of (line.Over p x) = Some x

-- whether a line begins an element
abbrev pub is_tag : {F : Type 0} → Option (Line F) → Bool
is_tag (Some (line.Plain (mark.Tag n))) = true
is_tag _ = false

-- whether the line of an ordinal does; lines are counted from 1
abbrev pub tag_at : {F : Type 0} → ℕ → List (Line F) → Bool
tag_at zero ls = false
tag_at (suc i) ls = is_tag (slice_get ls i)

-- a template: its lines, and the names for which their slots stand
pub record Plan : Type 0 where
  pub lines : List (Line Tree)
  pub names : List (List ℕ)
