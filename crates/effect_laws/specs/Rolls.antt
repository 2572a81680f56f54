-- How often things stand, end, and are noted.
use Rattle.std.specs.Prelude.{ℕ, ◌+◌, ◌==◌, ◌&&◌, Bool, true, false, List, [], ◌∷◌, map, nat_lt, if◌then◌else◌}
use Rattle.signal_model.specs.Signals.{Signals, Cell, Computed}
use Rattle.effect_model.specs.Owners.{Thing, the_signal, the_owner, the_effect, the_page, the_watcher, same_thing, Cleanup, Owned, nothing, thing}
use Rattle.effect_model.specs.Owners.{cleanup, Undoing, cleans, ends}
use Rattle.effect_model.specs.Worlds.{Counts, Event, body_ran, cleaned, gone, noted, World, effect_numbers, watcher_numbers}

-- one for true
abbrev pub bit : Bool → ℕ
bit true = 1
bit false = 0

-- how often a number stands in a list
abbrev pub times_in : ℕ → List ℕ → ℕ
times_in n [] = 0
times_in n (m ∷ ms) = bit (n == m) + times_in n ms

-- the numbers of what lives
pub record Roll : Type 0 where
  pub cells : List ℕ
  pub computeds : List ℕ
  pub owners : List ℕ
  pub effects : List ℕ
  pub pages : List ℕ
  pub watchers : List ℕ

-- the names of the cells that stand
abbrev pub cell_names : Signals → List ℕ
cell_names w = map (λ (c : Cell). c.name) w.cells

-- and of the computeds
abbrev pub computed_names : Signals → List ℕ
computed_names w = map (λ (c : Computed). c.name) w.computeds

-- those of a world
abbrev pub roll_of : World → Roll
roll_of w = record {
  cells = cell_names w.signals;
  computeds = computed_names w.signals;
  owners = w.owners;
  effects = effect_numbers w.effects;
  pages = w.pages;
  watchers = watcher_numbers w.watchers;
}

-- how often a thing lives
abbrev pub alive : Thing → Roll → ℕ
alive (the_signal n) r = times_in n r.cells + times_in n r.computeds
alive (the_owner n) r = times_in n r.owners
alive (the_effect n) r = times_in n r.effects
alive (the_page n) r = times_in n r.pages
alive (the_watcher n) r = times_in n r.watchers

-- whether a thing was made
abbrev pub was_made : Thing → Counts → Bool
was_made (the_signal n) c = nat_lt n c.signals
was_made (the_owner n) c = nat_lt n c.owners
was_made (the_effect n) c = nat_lt n c.effects
was_made (the_page n) c = nat_lt n c.pages
was_made (the_watcher n) c = nat_lt n c.watchers

-- how often a thing stands among what is owned
abbrev pub times : Thing → Owned → ℕ
times t nothing = 0
times t (thing u made earlier) = bit (same_thing t u) + (times t made + times t earlier)
times t (cleanup c earlier) = times t earlier

-- at how many places it is found, not counting those under itself
abbrev pub found : Thing → Owned → ℕ
found t nothing = 0
found t (thing u made earlier) = (if same_thing t u then 1 else found t made) + found t earlier
found t (cleanup c earlier) = found t earlier

-- how many cleanups that pass a test wait under a thing, where the first argument says whether we stand under it
abbrev pub waiting_under : Bool → Thing → (Cleanup → Bool) → Owned → ℕ
waiting_under here t p nothing = 0
waiting_under here t p (thing u made earlier) = waiting_under (same_thing t u) t p made + waiting_under here t p earlier
waiting_under here t p (cleanup c earlier) = bit (here && p c) + waiting_under here t p earlier

-- how often a teardown that is still to be done ends a thing
abbrev pub ends_in : Thing → List Undoing → ℕ
ends_in t [] = 0
ends_in t (cleans u c ∷ us) = ends_in t us
ends_in t (ends u ∷ us) = bit (same_thing t u) + ends_in t us

-- how many of its cleanups that pass a test it does
abbrev pub cleans_in : Thing → (Cleanup → Bool) → List Undoing → ℕ
cleans_in t p [] = 0
cleans_in t p (cleans u c ∷ us) = bit (same_thing t u && p c) + cleans_in t p us
cleans_in t p (ends u ∷ us) = cleans_in t p us

-- how often a thing has ended
abbrev pub ends_of : Thing → List Event → ℕ
ends_of t [] = 0
ends_of t (gone u ∷ es) = bit (same_thing t u) + ends_of t es
ends_of t (e ∷ es) = ends_of t es

-- how many cleanups that pass a test a thing has noted
abbrev pub noted_by : Thing → (Cleanup → Bool) → List Event → ℕ
noted_by t p [] = 0
noted_by t p (noted u c ∷ es) = bit (same_thing t u && p c) + noted_by t p es
noted_by t p (e ∷ es) = noted_by t p es

-- and how many of them were done
abbrev pub cleaned_by : Thing → (Cleanup → Bool) → List Event → ℕ
cleaned_by t p [] = 0
cleaned_by t p (cleaned u c ∷ es) = bit (same_thing t u && p c) + cleaned_by t p es
cleaned_by t p (e ∷ es) = cleaned_by t p es

-- how many cleanups of a thing were done since it last ran or ended: one event, where there were so many before it
abbrev pub open_after : Thing → ℕ → Event → ℕ
open_after t n (cleaned u c) = n + bit (same_thing t u)
open_after t n (body_ran e names) = if same_thing t (the_effect e) then 0 else n
open_after t n (gone u) = if same_thing t u then 0 else n
open_after t n e = n

-- and all events
abbrev pub open_cleanups : Thing → ℕ → List Event → ℕ
open_cleanups t n [] = n
open_cleanups t n (e ∷ es) = open_cleanups t (open_after t n e) es
