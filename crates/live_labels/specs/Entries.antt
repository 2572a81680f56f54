-- What is told of the events of a world, and what is called otherwise from then on.
use Rattle.std.specs.Prelude.{List, ℕ, Bool, true, [], ◌∷◌, ◌++◌, map, if◌then◌else◌}
use Rattle.effect_model.specs.Worlds.{gone, made_child}
use Rattle.effect_tables.specs.Bodies.{thing_of}
use Rattle.sig_computed.specs.Notes.{Note, note_of}
use Rattle.sig_effect.specs.declared.events.Event.{Event}
use Rattle.sig_effect.specs.declared.events.Event.TheVariants as event
use Rattle.live_entries.specs.declared.entry.Entry.{Entry}
use Rattle.live_entries.specs.declared.entry.Entry.TheVariants as entry
use Rattle.live_entries.specs.declared.refusal.Refusal.TheVariants as refusal
use Rattle.live_model.specs.Labels.{Labels, label_at, label_of, name_at, relabelled}

-- what is told of a run, by the names of signals
abbrev pub note_entry : List (List ℕ) → Note → Entry
note_entry names n = entry.Run (name_at names n.name) (map (name_at names) n.reads) n.outcome

-- what is told of an event; a change of a signal, the making of a child and the noting of a cleanup aren't told
abbrev pub entries_told : Labels → Event → List Entry
entries_told labels (event.Run n) = note_entry labels.signals (note_of n) ∷ []
entries_told labels (event.Change n how) = []
entries_told labels (event.Notify w) = entry.Notify (name_at labels.watchers w) ∷ []
entries_told labels (event.Frozen ws) = entry.Error (refusal.Frozen (map (name_at labels.watchers) ws.items)) ∷ []
entries_told labels (event.Dropped place asks) = entry.Drop place asks ∷ []
entries_told labels (event.Log v) = entry.Log v ∷ []
entries_told labels (event.Body e reads) = entry.Effect (label_at labels.effects e) (map (name_at labels.signals) reads.items) ∷ []
entries_told labels (event.Fail e f) = entry.Fail (label_at labels.effects e) f ∷ []
entries_told labels (event.Cleanup e) = entry.Cleanup (label_at labels.effects e) ∷ []
entries_told labels (event.Gone t) = entry.Gone (label_of labels (thing_of t)) ∷ []
entries_told labels (event.RefusedGone t) = entry.Error (refusal.Gone (label_of labels (thing_of t)).name) ∷ []
entries_told labels (event.RefusedHost place) = entry.Error (refusal.HostTaken place) ∷ []
entries_told labels (event.Made child parent k) = []
entries_told labels (event.Noted e) = []

-- the labels from then on
abbrev pub renamed : Event → Labels → Labels
renamed (event.Made child parent k) labels = relabelled (made_child child parent k) labels
renamed (event.Gone t) labels = relabelled (gone (thing_of t)) labels
renamed _ labels = labels

-- whether an event is to be told, with a trace or without: that a computed ran and that a body was evaluated is told only in a trace
abbrev pub is_wanted : Bool → Event → Bool
is_wanted traced (event.Run n) = traced
is_wanted traced (event.Body e reads) = traced
is_wanted traced _ = true

-- what is told of an event, with a trace or without
abbrev pub entries_for : Bool → Labels → Event → List Entry
entries_for traced labels e = if is_wanted traced e then entries_told labels e else []

-- what is told of events so, each by the labels of its moment
abbrev pub told_for : Bool → Labels → List Event → List Entry
told_for traced labels [] = []
told_for traced labels (e ∷ es) = entries_for traced labels e ++ told_for traced (renamed e labels) es
