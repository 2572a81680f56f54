-- What changes tell, and what they leave.
use Rattle.std.specs.Prelude.{◌≡◌, ℕ, List, [], ◌∷◌, ◌++◌, map, Option, Some, None}
use Rattle.std.specs.List.{filter}
use Rattle.effect_model.specs.declared.how.How.TheVariants.{Set}
use Rattle.sig_host.specs.Hosts.{HostPlace, count_at, dropped_at}
use Rattle.sig_watcher.specs.declared.recipients.Told.{Told}
use Rattle.sig_effect.specs.declared.events.Event.{Event}
use Rattle.sig_effect.specs.declared.events.Event.TheVariants.{Change, Notify, Frozen, Dropped}

-- the host formula of a place that was left is dropped, where one was
abbrev pub dropped_if : Option ℕ → List HostPlace → List HostPlace
dropped_if None asked = asked
dropped_if (Some place) asked = dropped_at asked place

-- and that is told
abbrev pub drop_events : Option ℕ → List HostPlace → List Event
drop_events None asked = []
drop_events (Some place) asked = Dropped place (count_at asked place) ∷ []

-- these cells have another value, and that is told
abbrev pub values_told : List ℕ → List Event
values_told ns = map (λ (n : ℕ). Change n Set) ns

-- the watchers that were told, and those among them whose try was refused
abbrev pub ids_told : List Told → List ℕ
ids_told ts = map (λ (t : Told). t.watcher) ts

abbrev pub ids_refused : List Told → List ℕ
ids_refused ts = map (λ (t : Told). t.watcher) (filter (λ (t : Told). t.refused) ts)

-- an event tells of these refused tries
abbrev pub IsFrozen : List ℕ → Event → Type 0
IsFrozen ns (Frozen ws) = ws.items ≡ ns
IsFrozen ns _ = ⊥

-- such an event was put behind others
pub record HasFrozen (ns : List ℕ) (before after : List Event) : Type 0 where
  pub event : Event
  pub frozen : IsFrozen ns event
  pub behind : after ≡ before ++ event ∷ []

-- so it is where there are any, and else nothing more is told
abbrev pub AreFrozen : List ℕ → List Event → List Event → Type 0
AreFrozen [] before after = after ≡ before
AreFrozen (n ∷ ns) before after = HasFrozen (n ∷ ns) before after

-- each watcher that was notified is told of, and then the refused tries, all at once
abbrev pub AreNotices : List Told → List Event → List Event → Type 0
AreNotices ts before after = AreFrozen (ids_refused ts) (before ++ map Notify (ids_told ts)) after
