-- What callers see of a batch, and what its calls make of it and of a graph.
use Rattle.std.specs.Prelude.{◌≡◌, ℕ, ◌-◌, ◌<◌, ◌⊎◌, true, List, [], ◌∷◌, ◌++◌, if◌then◌else◌}
use Rattle.std.specs.Map.{keys_of}
use Rattle.sig_base.specs.declared.value.Value.{Value}
use Rattle.signal_model.specs.Signals.{Signals, Stands, IsCell, is_in, standing}
use Rattle.effect_model.specs.Batches.{Batch, joined, is_other}
use Rattle.sig_graph.specs.States.{State, with_set}
use Rattle.sig_state.specs.Equality.{IsRuled}

-- the cells that were changed, each with its value as the batch began, and for how many cells more there is room
pub record Collected : Type 0 where
  pub changed : Batch
  pub spare : ℕ

-- a cell is there, or there is room for it
abbrev pub HasRoom : ℕ → Collected → Type 0
HasRoom n c = (is_in n (keys_of c.changed) ≡ true) ⊎ (0 < c.spare)

-- a cell joins with its value before the change, unless it is there
abbrev pub with_joined : ℕ → Value → Collected → Collected
with_joined n before c = record {
  changed = joined n before c.changed;
  spare = if is_in n (keys_of c.changed) then c.spare else c.spare - 1;
}

-- a cell that stands there does, with the value that it has
abbrev pub with_joining : ℕ → Stands → Collected → Collected
with_joining n (IsCell s) c = with_joined n s.value c
with_joining n _ c = c

-- the rule of each of its cells, if it has one, is one of so many
abbrev pub AreRuled : ℕ → Signals → Batch → Type 0
AreRuled rules w b = (n : ℕ) → is_in n (keys_of b) ≡ true → IsRuled rules (standing w n)

-- a cell has an earlier value back, where it has another one
abbrev pub with_return : ℕ → Value → State → State
with_return n before s = if is_other before (standing s.signals n) then with_set s n before else s

-- then it is given back
abbrev pub given_back : ℕ → Value → State → List ℕ
given_back n before s = if is_other before (standing s.signals n) then n ∷ [] else []

-- each of these has
abbrev pub with_returns : Batch → State → State
with_returns [] s = s
with_returns (p ∷ b) s = with_returns b (with_return p.0 p.1 s)

-- those that are given back, in the order of first change
abbrev pub all_given_back : Batch → State → List ℕ
all_given_back [] s = []
all_given_back (p ∷ b) s = given_back p.0 p.1 s ++ all_given_back b (with_return p.0 p.1 s)
