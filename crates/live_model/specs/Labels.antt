-- What things are called in what is told.
use Rattle.std.specs.Prelude.{ℕ, ◌==◌, Bool, List, [], ◌∷◌, ◌++◌, Option, Some, None, length, slice_get, unwrap_or, codes, cond, if◌then◌else◌}
use Rattle.std.specs.List.{filter}
use Rattle.std.specs.Option.{option_map_or}
use Rattle.effect_model.specs.Owners.{Thing, the_signal, the_owner, the_effect, the_page, the_watcher}
use Rattle.effect_model.specs.Worlds.{Effect, Event, gone, made_child}
use Rattle.live_entries.specs.declared.label.Label.{Label}

-- the names of signals, owners, pages and watchers, each at its number, and the label of each effect that has one
pub record Labels : Type 0 where
  pub signals : List (List ℕ)
  pub owners : List (List ℕ)
  pub pages : List (List ℕ)
  pub watchers : List (List ℕ)
  pub effects : ℕ → Option Label

-- nothing was made
abbrev pub no_labels : Labels
no_labels = record { signals = []; owners = []; pages = []; watchers = []; effects = λ e. None }

-- the name of what was never made
abbrev pub nobody : List ℕ
nobody = codes "unnamed"

-- the name of what has a number
abbrev pub name_at : List (List ℕ) → ℕ → List ℕ
name_at names n = unwrap_or (slice_get names n) nobody

-- the label of what a command made
abbrev pub named : List ℕ → Label
named n = record { name = n; path = [] }

-- whether a command made it
abbrev pub is_named : Label → Bool
is_named l = length l.path == 0

-- the label that would be told of what was never made: no command gives it, and no child has it, whose number is 1 or more
abbrev pub unmade : Label
unmade = record { name = nobody; path = 0 ∷ [] }

-- the label of what has a number among what commands made under these names
abbrev pub named_at : List (List ℕ) → ℕ → Label
named_at names n = option_map_or named (slice_get names n) unmade

-- the label of an effect
abbrev pub label_at : (ℕ → Option Label) → ℕ → Label
label_at labels n = unwrap_or (labels n) unmade

-- the label of a thing
abbrev pub label_of : Labels → Thing → Label
label_of labels (the_signal n) = named_at labels.signals n
label_of labels (the_owner n) = named_at labels.owners n
label_of labels (the_effect n) = label_at labels.effects n
label_of labels (the_page n) = named_at labels.pages n
label_of labels (the_watcher n) = named_at labels.watchers n

-- the k-th child that a run of an effect makes
abbrev pub child_label : Label → ℕ → Label
child_label l k = record { name = l.name; path = l.path ++ k ∷ [] }

-- the labels, of which this effect has that one, or none
abbrev pub with_label : ℕ → Option Label → (ℕ → Option Label) → ℕ → Option Label
with_label n l labels = λ e. cond (n == e) l (labels e)

-- what is left of a label when its effect ends: that of what a command made
abbrev pub lasting : Option Label → Option Label
lasting None = None
lasting (Some l) = if is_named l then Some l else None

-- A child has its label from its making to its end. What a command made keeps its name.
abbrev pub relabelled : Event → Labels → Labels
relabelled (made_child child parent k) labels =
    record labels { effects = with_label child (Some (child_label (label_at labels.effects parent) k)) labels.effects }
relabelled (gone (the_effect n)) labels = record labels { effects = with_label n (lasting (labels.effects n)) labels.effects }
relabelled e labels = labels

-- the labels after these events
abbrev pub labels_after : List Event → Labels → Labels
labels_after [] labels = labels
labels_after (e ∷ es) labels = labels_after es (relabelled e labels)

-- how many of these effects a command made
abbrev pub named_count : Labels → List Effect → ℕ
named_count labels xs = length (filter (λ (x : Effect). is_named (label_at labels.effects x.number)) xs)
