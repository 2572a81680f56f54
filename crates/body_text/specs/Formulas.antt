-- Formulas with their names, as the program holds them.
use Rattle.std.specs.Prelude.{◌≡◌, ◌≤◌, length}
use Rattle.std.specs.Coded.{Coded, code_by, coded_list, coded_ℕ, coded×}
use Rattle.sig_base.specs.declared.limits.TheConstants.{MOST_SOURCES}
use Rattle.sig_formula.specs.Codes.{tree_code}
use Rattle.formula_text.specs.Canonical.{unslotted}
use Rattle.formula_text.specs.Grammar.{Draft}
use Rattle.formula_text.specs.Slots.{Wiring, wired}
use Rattle.formula_text.proofs.Shared.{named_back}

-- the formula with its names in place of their slots
abbrev pub unwired : Wiring → Draft
unwired w = unslotted w.1 w.0

-- its slots are its own names in the order of the text, and these are few
abbrev pub IsOwn : Wiring → Type 0
IsOwn w = (w ≡ wired (unwired w)) × (length w.1 ≤ MOST_SOURCES)

-- a formula with names is stored with slots
abbrev pub draft_code : Coded Draft
draft_code = code_by Wiring (coded× tree_code (coded_list (coded_list coded_ℕ))) wired unwired named_back
