-- What is refused of a line that says something.
use Rattle.std.specs.Prelude.{ℕ, false, Option}
use Rattle.formula_text.specs.declared.wired.Allow.{Allow}
use Rattle.formula_text.specs.declared.wired.FormulaFault.{FormulaFault}
use Rattle.formula_text.specs.declared.wired.FormulaFault.TheVariants as fault
use Rattle.line_forms.specs.Told.{fault_along}
use Rattle.live_entries.specs.declared.refusal.LimitWord.TheVariants as limit
use Rattle.live_entries.specs.declared.refusal.Refusal.{Refusal}
use Rattle.live_entries.specs.declared.refusal.Refusal.TheVariants as refusal
use Rattle.live_cmd.specs.Grammar.{Said, row}

-- in the formulas of computeds there is no row, and every read is tracked
abbrev pub tracked : Allow
tracked = record { row = false; untrack = false }

-- what is wrong with a line that says something: an `untrack`, a formula's height, a text's length, a formula's names or a host formula's
-- arguments, the first of these
abbrev pub fault_of : Said → Option FormulaFault
fault_of x = fault_along tracked (row x.0).1 x.1

-- what a line of this number is refused for that has this wrong with it: something stands where it may not, or is too much
abbrev pub refused_for : ℕ → FormulaFault → Refusal
refused_for k fault.UntrackHere = refusal.UntrackHere k
refused_for k fault.ItHere = refusal.ItHere k
refused_for k fault.Nest = refusal.Nest k
refused_for k fault.TextLong = refusal.Limit limit.Text
refused_for k fault.Sources = refusal.Limit limit.Sources
refused_for k fault.Syntax = refusal.Syntax k
refused_for k (fault.NoMemory e) = refusal.Syntax k
