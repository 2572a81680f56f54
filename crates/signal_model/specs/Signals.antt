-- The signals that stand: cells and computeds, each list in the order of making. What stands in neither is gone.
use Rattle.std.specs.Prelude.{ℕ, ◌==◌, ◌||◌, Bool, true, false, List, [], ◌∷◌, Option, Some, None, if◌then◌else◌}
use Rattle.sig_base.specs.declared.value.Value.{Value}
use Rattle.signal_model.specs.Recipes.{Recipe}

-- a signal that is set, and the place of its equality rule where it has one
pub record Cell : Type 0 where
  pub name : ℕ
  pub value : Value
  pub rule : Option ℕ

-- a signal that is computed
pub record Computed : Type 0 where
  pub name : ℕ
  pub recipe : Recipe

-- the signals that stand
pub record Signals : Type 0 where
  pub cells : List Cell
  pub computeds : List Computed

-- whether a name is in a list
abbrev pub is_in : ℕ → List ℕ → Bool
is_in n [] = false
is_in n (m ∷ ms) = n == m || is_in n ms

-- a list in which what has a name is changed
abbrev pub changed : {A : Type 0} → (A → ℕ) → ℕ → (A → A) → List A → List A
changed name n f [] = []
changed name n f (x ∷ xs) = (if n == name x then f x else x) ∷ changed name n f xs

-- a list without what has a name
abbrev pub without : {A : Type 0} → (A → ℕ) → ℕ → List A → List A
without name n [] = []
without name n (x ∷ xs) = if n == name x then without name n xs else x ∷ without name n xs

-- the first of a list that has a name
abbrev pub found : {A : Type 0} → (A → ℕ) → ℕ → List A → Option A
found name n [] = None
found name n (x ∷ xs) = if n == name x then Some x else found name n xs

-- the cell of a name
abbrev pub cell_at : ℕ → List Cell → Option Cell
cell_at n cs = found (λ (c : Cell). c.name) n cs

-- the computed of a name
abbrev pub computed_at : ℕ → List Computed → Option Computed
computed_at n cs = found (λ (c : Computed). c.name) n cs

-- what stands under a name
pub data Stands : Type 0 where
  IsGone : Stands
  IsCell : Cell → Stands
  IsComputed : Computed → Stands

-- a computed where there is one
abbrev pub or_gone : Option Computed → Stands
or_gone None = IsGone
or_gone (Some c) = IsComputed c

-- a cell where there is one, and otherwise a computed
abbrev pub or_computed : Option Cell → Option Computed → Stands
or_computed (Some c) d = IsCell c
or_computed None d = or_gone d

-- what stands under a name of these signals
abbrev pub standing : Signals → ℕ → Stands
standing w n = or_computed (cell_at n w.cells) (computed_at n w.computeds)

-- whether a signal stands
abbrev pub is_there : Stands → Bool
is_there IsGone = false
is_there (IsCell c) = true
is_there (IsComputed c) = true

-- whether it is a cell
abbrev pub is_cell : Stands → Bool
is_cell (IsCell c) = true
is_cell _ = false

-- whether it is a computed
abbrev pub is_computed : Stands → Bool
is_computed (IsComputed c) = true
is_computed _ = false
