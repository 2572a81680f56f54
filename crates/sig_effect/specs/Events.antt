-- What is told, beside what the plain world tells.
use Rattle.std.specs.Prelude.{◌≡◌, ℕ, ◌<◌, true, List, [], ◌∷◌, ◌++◌}
use Rattle.std.specs.List.{All}
use Rattle.signal_model.specs.Asks.{Moment}
use Rattle.effect_model.specs.Owners.{the_effect, Cleanup as CleanupAct}
use Rattle.effect_model.specs.Worlds as told
use Rattle.effect_tables.specs.declared.thing.Thing.TheVariants as thing
use Rattle.effect_tables.specs.Bodies.{thing_of}
use Rattle.sig_graph.specs.States.{Seen, is_given}
use Rattle.sig_computed.specs.Notes.{note_of, run_note, IsNoteGiven, Note}
use Rattle.sig_effect.specs.declared.events.Event.{Event}
use Rattle.sig_effect.specs.declared.events.Event.TheVariants as event

-- the plain world tells of a run, by this note
pub record IsRunTold (n : Note) (t : told.Event) : Type 0 where
  pub moment : Moment
  pub ran : t ≡ told.ran moment
  pub note : n ≡ run_note moment.run

-- the plain world tells of a cleanup of an effect
pub record IsCleanupTold (e : ℕ) (t : told.Event) : Type 0 where
  pub act : CleanupAct
  pub cleaned : t ≡ told.cleaned (the_effect e) act

-- the plain world tells that an effect notes a cleanup
pub record IsNoteTold (e : ℕ) (t : told.Event) : Type 0 where
  pub act : CleanupAct
  pub noted : t ≡ told.noted (the_effect e) act

-- an event tells what the plain world tells
abbrev pub IsTold : Event → told.Event → Type 0
IsTold (event.Run n) t = IsRunTold (note_of n) t
IsTold (event.Change n how) t = t ≡ told.changed_signal n how
IsTold (event.Notify n) t = t ≡ told.notified n
IsTold (event.Frozen ns) t = t ≡ told.frozen ns.items
IsTold (event.Dropped place asks) t = t ≡ told.dropped_host place asks
IsTold (event.Log v) t = t ≡ told.logged v
IsTold (event.Body e reads) t = t ≡ told.body_ran e reads.items
IsTold (event.Fail e f) t = t ≡ told.failed e f
IsTold (event.Cleanup e) t = IsCleanupTold e t
IsTold (event.Gone x) t = t ≡ told.gone (thing_of x)
IsTold (event.RefusedGone x) t = t ≡ told.refused (told.thing_gone (thing_of x))
IsTold (event.RefusedHost place) t = t ≡ told.refused (told.host_taken place)
IsTold (event.Made child parent label) t = t ≡ told.made_child child parent label
IsTold (event.Noted e) t = IsNoteTold e t

-- events tell what the plain world tells, one by one
abbrev pub AreTold : List Event → List told.Event → Type 0
AreTold [] [] = Unit {0}
AreTold (e ∷ es) (t ∷ ts) = IsTold e t × AreTold es ts
AreTold _ _ = ⊥

-- events are put behind others, and tell what the plain world tells
pub record Tells (before after : List Event) (ts : List told.Event) : Type 0 where
  pub more : List Event
  pub behind : after ≡ before ++ more
  pub each : AreTold more ts

-- what an event names of signals and watchers was made: a signal by the graph, and a watcher among so many
abbrev pub IsNamed : Seen → ℕ → Event → Type 0
IsNamed g made (event.Run n) = IsNoteGiven g (note_of n)
IsNamed g made (event.Change n how) = is_given g n ≡ true
IsNamed g made (event.Notify n) = n < made
IsNamed g made (event.Frozen ns) = All (λ n. n < made) ns.items
IsNamed g made (event.Gone (thing.Signal n)) = is_given g n ≡ true
IsNamed g made (event.Gone (thing.Watcher n)) = n < made
IsNamed g made _ = Unit {0}

-- so was what these name
abbrev pub AreNamed : Seen → ℕ → List Event → Type 0
AreNamed g made es = All (IsNamed g made) es
