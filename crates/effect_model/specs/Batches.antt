-- Changes that are collected while a batch is open: they are told together as it is committed, or given back as it is aborted.
use Rattle.std.specs.Prelude.{ℕ, Bool, false, not, List, [], ◌∷◌, ◌++◌, Option, Some, None, if◌then◌else◌}
use Rattle.std.specs.List.{filter}
use Rattle.std.specs.Map.{keys_of}
use Rattle.sig_base.specs.declared.value.Value.{Value}
use Rattle.sig_base.specs.Values.{same_value}
use Rattle.signal_model.specs.Signals.{Signals, Stands, IsCell, is_in, standing}
use Rattle.effect_model.specs.Worlds.{Environment, World}
use Rattle.effect_model.specs.Acts.{are_alike, notify_of_all, with_quiet_value}

-- the cells that were changed in a batch, in the order of first change, each with its value as the batch began
abbrev pub Batch : Type 0
Batch = List (ℕ × Value)

-- ---- while it is open

-- a cell that is changed joins it with its value before the change, unless it is there
abbrev pub joined : ℕ → Value → Batch → Batch
joined n before b = if is_in n (keys_of b) then b else b ++ (n, before) ∷ []

-- the value that a set replaces, none where the cell's equality calls the new one the same, or where no cell stands
abbrev pub replaced_by : List ℕ → Stands → Value → Option Value
replaced_by slacks (IsCell c) v = if are_alike slacks c.rule c.value v then None else Some c.value
replaced_by slacks _ v = None

-- a cell has another value where that replaces one
abbrev pub with_replacing : ℕ → Value → Option Value → World → World
with_replacing n v None w = w
with_replacing n v (Some before) w = with_quiet_value n v w

-- and then it joins
abbrev pub joined_replaced : ℕ → Option Value → Batch → Batch
joined_replaced n None b = b
joined_replaced n (Some before) b = joined n before b

-- a cell is set while a batch is open: nothing happens where its equality answers yes, and nobody is notified
abbrev pub set_quietly : Environment → ℕ → Value → World → World
set_quietly env n v w = with_replacing n v (replaced_by env.slacks (standing w.signals n) v) w

-- what the batch is then, by what stood there
abbrev pub joined_by : List ℕ → Stands → ℕ → Value → Batch → Batch
joined_by slacks s n v b = joined_replaced n (replaced_by slacks s v) b

-- ---- how it ends

-- whether a cell stands there whose equality calls its value another than this earlier one
abbrev pub is_unlike : List ℕ → Value → Stands → Bool
is_unlike slacks before (IsCell c) = not (are_alike slacks c.rule before c.value)
is_unlike slacks before _ = false

-- the cells that a commit tells, in the order of first change: those whose value as the batch began and present value are unlike
abbrev pub net_of : List ℕ → Signals → Batch → List ℕ
net_of slacks w b = keys_of (filter (λ (p : ℕ × Value). is_unlike slacks p.1 (standing w p.0)) b)

-- it is committed: its cells are told together
abbrev pub commit : Environment → Batch → World → World
commit env b w = notify_of_all (net_of env.slacks w.signals b) w

-- whether a cell stands there with another value than this one
abbrev pub is_other : Value → Stands → Bool
is_other before (IsCell c) = not (same_value c.value before)
is_other before _ = false

-- a cell has an earlier value back, which is a change where it has another one; nobody is notified
abbrev pub give_back : ℕ → Value → World → World
give_back n before w = if is_other before (standing w.signals n) then with_quiet_value n before w else w

-- it is aborted: each of its cells has its earlier value back, in the order of first change
abbrev pub abort : Batch → World → World
abort [] w = w
abort (p ∷ b) w = abort b (give_back p.0 p.1 w)
