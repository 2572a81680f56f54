-- What a graph stands for, and what each edit makes of that.
use Rattle.std.specs.Prelude.{◌≡◌, ℕ, ◌+◌, ◌<◌, ◌^◌, ◌==◌, ◌&&◌, nat_lt, Bool, true, false, List, [], ◌∷◌, ◌++◌, map, Option, None, is_some, if◌then◌else◌}
use Rattle.sig_base.specs.declared.value.Value.{Value}
use Rattle.sig_base.specs.declared.value.Outcome.{Outcome}
use Rattle.sig_base.specs.declared.value.Known.{Known}
use Rattle.signal_model.specs.Recipes.{Recipe}
use Rattle.signal_model.specs.Signals.{Signals, Cell, Computed, is_there, standing, changed, without}
use Rattle.signal_model.specs.Memos.{Memos, named_now}
use Rattle.signal_model.specs.Kept.{AreGiven}
use Rattle.signal_model.specs.Settling.{with_memo}
pub use Rattle.sig_marks.specs.Tables.{dependants_at}
use Rattle.signal_model.specs.Changes.{no_signals, no_memos, with_cell, with_computed, after_making, with_value, after_change, with_recipe, after_rewiring, without_signal, after_disposal}

-- how far a computed is evaluated: none while it isn't computing, else the values that its recipe was last asked with
pub record Progress : Type 0 where
  pub name : ℕ
  pub known : Option (List Known)

-- the signals with what is kept of them, the progress of each computed, the number of counted steps, and a number that no counter is above
pub record State : Type 0 where
  pub signals : Signals
  pub memos : Memos
  pub progress : List Progress
  pub looked : ℕ
  pub worn : ℕ

-- What callers see of a graph: its state; the live signal that has each seat, none where the seat is free; how many ids were given,
-- which are the numbers below that; and the dependants of each signal that was made. These stand in an order that is no function of the
-- state, so no edit tells what becomes of it.
pub record Seen : Type 0 where
  pub state : State
  pub seats : List (Option ℕ)
  pub given : ℕ
  pub order : List (List ℕ)

-- whether the graph gave this id, be the signal gone or not
unfoldable pub is_given : Seen → ℕ → Bool
is_given g n = nat_lt n g.given

-- the progress under a name
abbrev pub progress_at : ℕ → List Progress → Option (List Known)
progress_at n [] = None
progress_at n (p ∷ ps) = if n == p.name then p.known else progress_at n ps

-- whether a computed is being evaluated
abbrev pub is_computing : State → ℕ → Bool
is_computing s n = is_some (progress_at n s.progress)

-- no counter comes to its end by one step more
abbrev pub CanWear : State → Type 0
CanWear s = s.worn + 1 < 2 ^ 128

-- one step more, up to the last number of 128 bits
abbrev pub counted : ℕ → ℕ
counted n = if nat_lt (n + 1) (2 ^ 128) then n + 1 else n

-- a graph with nothing in it
abbrev pub no_state : State
no_state = record { signals = no_signals; memos = no_memos; progress = []; looked = 0; worn = 0 }

-- a cell is made
abbrev pub with_new_cell : State → Cell → State
with_new_cell s c = record s { signals = with_cell s.signals c; memos = after_making s.memos c.name; worn = s.worn + 1 }

-- a computed is made
abbrev pub with_new_computed : State → Computed → State
with_new_computed s c = record s {
  signals = with_computed s.signals c;
  memos = after_making s.memos c.name;
  progress = s.progress ++ record { name = c.name; known = None } ∷ [];
  worn = s.worn + 1;
}

-- a cell has another value
abbrev pub with_set : State → ℕ → Value → State
with_set s n v = record s { signals = with_value s.signals n v; memos = after_change s.memos n; worn = s.worn + 1 }

-- a computed has another recipe
abbrev pub with_rewiring : State → ℕ → Recipe → State
with_rewiring s n r = record s { signals = with_recipe s.signals n r; memos = after_rewiring s.memos n; worn = s.worn + 1 }

-- a signal is gone
abbrev pub with_disposal : State → ℕ → State
with_disposal s n = record s {
  signals = without_signal s.signals n;
  memos = after_disposal s.memos n;
  progress = without (λ (p : Progress). p.name) n s.progress;
  worn = s.worn + 1;
}

-- a computed's evaluation is at these values, or is at no values since it isn't evaluated
abbrev pub with_progress : State → ℕ → Option (List Known) → State
with_progress s n k = record s { progress = changed (λ (p : Progress). p.name) n (λ p. record p { known = k }) s.progress }

-- whether all of these live
abbrev pub are_there : Signals → List ℕ → Bool
are_there w [] = true
are_there w (n ∷ ns) = is_there (standing w n) && are_there w ns

-- an evaluation ends with a run
abbrev pub with_kept_run : State → ℕ → Outcome → List ℕ → State
with_kept_run s n o reads =
    record (with_progress s n None) { memos = with_memo s.memos n o (map (named_now s.memos) reads); worn = s.worn + 1 }

-- one counted step
abbrev pub with_look : State → State
with_look s = record s { looked = counted s.looked }

-- An edit that makes nothing: the graph's state afterwards is this one, and no id is given.
pub record Becomes (old new : Seen) (after : State) : Type 0 where
  pub state : new.state ≡ after
  pub given : new.given ≡ old.given

-- A making: the next id is given, which is the number of those before it, and the graph's state afterwards is this one. Each name in use
-- was given before.
pub record Makes (old new : Seen) (n : ℕ) (after : State) : Type 0 where
  pub id : n ≡ old.given
  pub given : new.given ≡ old.given + 1
  pub state : new.state ≡ after
  pub fresh : is_given old n ≡ false
  pub used : AreGiven (is_given old) old.state.signals old.state.memos
