-- What callers see of the watchers, and what each call makes of that.
use Rattle.std.specs.Prelude.{ℕ, ◌+◌, Bool, false, List, [], ◌∷◌, ◌++◌, map}
use Rattle.signal_model.specs.Signals.{changed, is_in, without}
use Rattle.effect_model.specs.Worlds.{Watcher, watcher_numbers}

-- the watchers that live, in the order of making, and how many were made so far
pub record Table : Type 0 where
  pub watchers : List Watcher
  pub made : ℕ

-- there are no watchers
abbrev pub no_watchers : Table
no_watchers = record { watchers = []; made = 0 }

-- a watcher as it is made
abbrev pub new_watcher : ℕ → Bool → Watcher
new_watcher n tries = record { number = n; signals = []; watching = false; tries = tries }

-- a watcher that is waiting
abbrev pub waiting : Watcher → Watcher
waiting x = record x { watching = false }

-- one more is made
abbrev pub with_new : Bool → Table → Table
with_new tries t = record t { watchers = t.watchers ++ new_watcher t.made tries ∷ []; made = t.made + 1 }

-- the watcher of a number is changed
abbrev pub with_changed : ℕ → (Watcher → Watcher) → Table → Table
with_changed n f t = record t { watchers = changed (λ (x : Watcher). x.number) n f t.watchers }

-- the watcher of a number is removed
abbrev pub with_removal : ℕ → Table → Table
with_removal n t = record t { watchers = without (λ (x : Watcher). x.number) n t.watchers }

-- each watcher is changed
abbrev pub with_each : (Watcher → Watcher) → Table → Table
with_each f t = record t { watchers = map f t.watchers }

-- whether the watcher of a number lives
abbrev pub is_alive : List Watcher → ℕ → Bool
is_alive xs n = is_in n (watcher_numbers xs)
