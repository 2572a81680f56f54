-- The outcomes that were heard of names.
use Rattle.std.specs.Prelude.{ℕ, List, nat_eq, Option}
use Rattle.std.specs.Map.{lookup}
use Rattle.sig_base.specs.declared.value.Outcome.{Outcome}

-- names with their outcomes, in the order of hearing
abbrev pub Outcomes : Type 0
Outcomes = List (ℕ × Outcome)

-- the outcome that was heard of a name
abbrev pub heard_of : Outcomes → ℕ → Option Outcome
heard_of heard n = lookup (nat_eq n) heard
