-- The state that the nodes of a graph stand for, part by part.
use Rattle.std.specs.Prelude.{ℕ, ◌+◌, List, [], ◌∷◌, ◌++◌, Option, Some, None}
use Rattle.signal_model.specs.Signals.{Signals, Cell, Computed}
use Rattle.signal_model.specs.Memos.{Entry, Memos}
use Rattle.sig_graph.specs.States.{State, Progress, with_new_cell, with_new_computed}
use Rattle.sig_nodes.specs.declared.node.Node.{Node}
use Rattle.sig_nodes.specs.declared.node.Body.{Body}
use Rattle.sig_nodes.specs.declared.node.Body.TheVariants.{Gone, Cell as CellBody, Computed as ComputedBody}

-- the cell in a body, under this name
abbrev pub cell_part : ℕ → Body → List Cell
cell_part n (CellBody v r) = record { name = n; value = v; rule = r } ∷ []
cell_part n _ = []

-- the computed in a body
abbrev pub computed_part : ℕ → Body → List Computed
computed_part n (ComputedBody c) = record { name = n; recipe = c.recipe } ∷ []
computed_part n _ = []

-- the entry of a body with this change number
abbrev pub entry_part : ℕ → ℕ → Body → List Entry
entry_part n number Gone = []
entry_part n number (CellBody v r) = record { name = n; number = number; memo = None } ∷ []
entry_part n number (ComputedBody c) = record { name = n; number = number; memo = c.memo } ∷ []

-- how far a computed's evaluation is
abbrev pub progress_part : ℕ → Body → List Progress
progress_part n (ComputedBody c) = record { name = n; known = c.known } ∷ []
progress_part n _ = []

-- what the nodes from place n on give, one after the other
abbrev pub parts : {A : Type 0} → (ℕ → Node → List A) → ℕ → List Node → List A
parts f n [] = []
parts f n (x ∷ xs) = f n x ++ parts f (n + 1) xs

-- the cells, each under its place
abbrev pub cells_of : List Node → List Cell
cells_of xs = parts (λ n x. cell_part n x.body) 0 xs

-- the computeds
abbrev pub computeds_of : List Node → List Computed
computeds_of xs = parts (λ n x. computed_part n x.body) 0 xs

-- the entries
abbrev pub entries_of : List Node → List Entry
entries_of xs = parts (λ n x. entry_part n x.number x.body) 0 xs

-- the progress of each computed
abbrev pub progress_of : List Node → List Progress
progress_of xs = parts (λ n x. progress_part n x.body) 0 xs

-- the signals that stand
abbrev pub signals_of : List Node → Signals
signals_of xs = record { cells = cells_of xs; computeds = computeds_of xs }

-- what is kept of them
abbrev pub memos_of : ℕ → List Node → Memos
memos_of g xs = record { generation = g; entries = entries_of xs }

-- the state that nodes and counters make
abbrev pub state_of : List Node → ℕ → ℕ → ℕ → State
state_of xs generation looked worn = record {
  signals = signals_of xs;
  memos = memos_of generation xs;
  progress = progress_of xs;
  looked = looked;
  worn = worn;
}

-- the entry of what stands in a body, under this name
abbrev pub entry_of : ℕ → ℕ → Body → Option Entry
entry_of n number Gone = None
entry_of n number (CellBody v r) = Some (record { name = n; number = number; memo = None })
entry_of n number (ComputedBody c) = Some (record { name = n; number = number; memo = c.memo })

-- a state with one signal more
abbrev pub with_new : State → ℕ → Body → State
with_new s n Gone = s
with_new s n (CellBody v r) = with_new_cell s (record { name = n; value = v; rule = r })
with_new s n (ComputedBody c) = with_new_computed s (record { name = n; recipe = c.recipe })
