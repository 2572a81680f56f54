-- What stands in the nodes of signals, and what an edit of one makes of them.
use Rattle.std.specs.Prelude.{◌≡◌, ℕ, zero, suc, ◌+◌, ◌||◌, ◌&&◌, not, Bool, true, false, List, [], ◌∷◌, Option, Some, None, is_some, if◌then◌else◌}
use Rattle.sig_base.specs.declared.value.Value.{Value}
use Rattle.sig_base.specs.declared.value.Known.{Known}
use Rattle.signal_model.specs.Recipes.{Recipe}
use Rattle.signal_model.specs.Signals.{Stands, IsGone, IsCell, IsComputed}
use Rattle.signal_model.specs.Memos.{Source, Memo, same_number}
use Rattle.signal_model.specs.Settling.{has_outcome}
use Rattle.signal_model.specs.Changes.{memo_rewired}
use Rattle.signal_model.specs.Asks.{is_host}
use Rattle.signal_model.specs.Sound.{kept_outcome}
use Rattle.sig_base.specs.declared.value.Fault.TheVariants as fault
use Rattle.sig_base.specs.declared.value.Outcome.{Outcome}
use Rattle.sig_base.specs.declared.value.Outcome.TheVariants.{Good, Bad}
use Rattle.sig_nodes.specs.Answers.{shown_computed, HasFewSlots}
use Rattle.sig_nodes.specs.declared.node.Node.{Node}
use Rattle.sig_nodes.specs.declared.node.Body.{Body}
use Rattle.sig_nodes.specs.declared.node.Body.TheVariants.{Gone, Cell as CellBody, Computed as ComputedBody}

-- ---- one node

-- the body at a place, and past the end there is none
abbrev pub body_at : List Node → ℕ → Body
body_at [] n = Gone
body_at (x ∷ xs) zero = x.body
body_at (x ∷ xs) (suc n) = body_at xs n

-- the change number at a place
abbrev pub change_at : List Node → ℕ → ℕ
change_at [] n = 0
change_at (x ∷ xs) zero = x.number
change_at (x ∷ xs) (suc n) = change_at xs n

-- the seat at a place
abbrev pub seat_at : List Node → ℕ → ℕ
seat_at [] n = 0
seat_at (x ∷ xs) zero = x.seat
seat_at (x ∷ xs) (suc n) = seat_at xs n

-- the node at a place changes
abbrev pub changed_at : (Node → Node) → ℕ → List Node → List Node
changed_at f n [] = []
changed_at f zero (x ∷ xs) = f x ∷ xs
changed_at f (suc n) (x ∷ xs) = x ∷ changed_at f n xs

-- what stands there under this name
abbrev pub stands_of : ℕ → Body → Stands
stands_of n Gone = IsGone
stands_of n (CellBody v r) = IsCell (record { name = n; value = v; rule = r })
stands_of n (ComputedBody c) = IsComputed (record { name = n; recipe = c.recipe })

-- whether a signal lives in the body
abbrev pub is_live_body : Body → Bool
is_live_body Gone = false
is_live_body _ = true

-- whether signals live at all of these places
abbrev pub are_live_bodies : List Node → List ℕ → Bool
are_live_bodies xs [] = true
are_live_bodies xs (n ∷ ns) = is_live_body (body_at xs n) && are_live_bodies xs ns

-- whether a cell does
abbrev pub is_cell_body : Body → Bool
is_cell_body (CellBody v r) = true
is_cell_body _ = false

-- whether a computed does
abbrev pub is_computed_body : Body → Bool
is_computed_body (ComputedBody c) = true
is_computed_body _ = false

-- a cell's value
abbrev pub value_body : Body → Option Value
value_body (CellBody v r) = Some v
value_body _ = None

-- a cell's rule
abbrev pub rule_body : Body → Option ℕ
rule_body (CellBody v r) = r
rule_body _ = None

-- a computed's memo
abbrev pub memo_body : Body → Option Memo
memo_body (ComputedBody c) = c.memo
memo_body _ = None

-- a computed's progress
abbrev pub known_body : Body → Option (List Known)
known_body (ComputedBody c) = c.known
known_body _ = None

-- the signals of a computed's slots
abbrev pub slots_body : Body → List ℕ
slots_body (ComputedBody c) = c.recipe.slots
slots_body _ = []

-- what a signal is read as
abbrev pub shown_body : Body → Outcome
shown_body Gone = Bad fault.Gone
shown_body (CellBody v r) = Good v
shown_body (ComputedBody c) = shown_computed (is_some c.known) (kept_outcome c.memo)

-- whether a computed asks the host formula at a place
abbrev pub asks_host_body : ℕ → Body → Bool
asks_host_body place (ComputedBody c) = is_host place c.recipe.expression
asks_host_body place _ = false

-- the same of a place
abbrev pub asks_host_here : ℕ → List Node → ℕ → Bool
asks_host_here place xs n = asks_host_body place (body_at xs n)

-- whether one of these does
abbrev pub some_asks_body : ℕ → List Node → Bool
some_asks_body place [] = false
some_asks_body place (x ∷ xs) = asks_host_body place x.body || some_asks_body place xs

-- where it asks a host formula, its arguments are few
abbrev pub FewSlotsBody : Body → Type 0
FewSlotsBody (ComputedBody c) = HasFewSlots c.recipe.expression c.recipe.slots
FewSlotsBody _ = Unit {0}

-- a signal's change number, none where it is gone
abbrev pub number_body : ℕ → Body → Option ℕ
number_body m Gone = None
number_body m _ = Some m

-- the change number of a place, none where nothing lives there
abbrev pub number_at : List Node → ℕ → Option ℕ
number_at xs n = number_body (change_at xs n) (body_at xs n)

-- whether a source has another number than the one that was read
abbrev pub has_differed : List Node → Option Source → Bool
has_differed xs None = false
has_differed xs (Some s) = not (same_number (number_at xs s.name) s.number)

-- whether a source has another number than the one that was read, or is computing
abbrev pub has_moved_body : List Node → Option Source → Bool
has_moved_body xs None = false
has_moved_body xs (Some s) = not (same_number (number_at xs s.name) s.number) || is_some (known_body (body_at xs s.name))

-- a cell's body with another value
abbrev pub with_body_value : Body → Value → Body
with_body_value (CellBody v r) w = CellBody w r
with_body_value b w = b

-- a computed's body after a run
abbrev pub with_body_memo : Body → Memo → Body
with_body_memo (ComputedBody c) m = ComputedBody (record c { memo = Some m; known = None })
with_body_memo b m = b

-- a computed's body with another recipe
abbrev pub with_body_recipe : Body → Recipe → Body
with_body_recipe (ComputedBody c) r = ComputedBody (record c { recipe = r; memo = memo_rewired c.memo })
with_body_recipe b r = b

-- a computed's body at another point of its evaluation
abbrev pub with_body_known : Body → Option (List Known) → Body
with_body_known (ComputedBody c) k = ComputedBody (record c { known = k })
with_body_known b k = b

-- a set of a node
abbrev pub set_node : Value → Node → Node
set_node v x = record x { number = x.number + 1; body = with_body_value x.body v }

-- a run of a node
abbrev pub run_node : Memo → Node → Node
run_node m x = record x { number = x.number + (if has_outcome (memo_body x.body) m.outcome then 0 else 1); body = with_body_memo x.body m }

-- a rewiring of a node
abbrev pub rewired_node : Recipe → Node → Node
rewired_node r x = record x { number = x.number + 1; body = with_body_recipe x.body r }

-- a step of a node's evaluation
abbrev pub known_node : Option (List Known) → Node → Node
known_node k x = record x { body = with_body_known x.body k }

-- what is left of a node whose signal is gone
abbrev pub gone : Node
gone = record { number = 0; seat = 0; body = Gone }

-- a node's signal is gone
abbrev pub gone_node : Node → Node
gone_node x = gone

-- a node as it is made
abbrev pub new_node : ℕ → Body → Node
new_node seat b = record { number = 0; seat = seat; body = b }

-- a body as it is made: a computed has not run and isn't computing
abbrev pub IsFresh : Body → Type 0
IsFresh Gone = ⊥
IsFresh (CellBody v r) = Unit {0}
IsFresh (ComputedBody c) = (c.memo ≡ None) × (c.known ≡ None)
