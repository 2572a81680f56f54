-- Names one after the other, and formulas over other names.
use Rattle.std.specs.Prelude.{ℕ, List, [], ◌∷◌, map, slice_get, unwrap_or}
use Rattle.sig_formula.specs.Trees.{Tree}
use Rattle.sig_formula.specs.Trees as tree
use Rattle.formula_text.specs.Refusals.{slot_of, with_name}
use Rattle.formula_text.specs.Slots.{Wiring}

-- those names, and behind them the others of these
abbrev pub with_each : List (List ℕ) → List (List ℕ) → List (List ℕ)
with_each ns [] = ns
with_each ns (m ∷ ms) = with_each (with_name ns m) ms

-- the slot for which another stands
abbrev pub slot_in : List ℕ → ℕ → ℕ
slot_in slots n = unwrap_or (slice_get slots n) 0

-- the formula with these slots in place of its own
abbrev pub reslotted : List ℕ → Tree → Tree
reslotted slots (tree.literal s) = tree.literal s
reslotted slots (tree.slot n) = tree.slot (slot_in slots n)
reslotted slots (tree.negation x) = tree.negation (reslotted slots x)
reslotted slots (tree.binary o x y) = tree.binary o (reslotted slots x) (reslotted slots y)
reslotted slots (tree.choice w x y) = tree.choice (reslotted slots w) (reslotted slots x) (reslotted slots y)
reslotted slots (tree.untracked x) = tree.untracked (reslotted slots x)
reslotted slots (tree.row_field n) = tree.row_field n
reslotted slots tree.row_key = tree.row_key
reslotted slots (tree.count_of x) = tree.count_of (reslotted slots x)
reslotted slots (tree.sum_of x y) = tree.sum_of (reslotted slots x) (reslotted slots y)
reslotted slots (tree.rows_where x y) = tree.rows_where (reslotted slots x) (reslotted slots y)

-- a wired formula over these names
abbrev pub among_names : List (List ℕ) → Wiring → Tree
among_names ns w = reslotted (map (slot_of ns) w.1) w.0
